-- Laws for the code of resolving.
--
--   Framing   units after their 4 bytes
--   Puts      units written, one after the other
--   Ranges    samples one after the other
--   Streams   a byte stream judged, unit by unit
--   Answered  what the calls answer, as the code takes them
pub mod Framing
pub mod Puts
pub mod Streams
pub mod Answered
pub mod Ranges
