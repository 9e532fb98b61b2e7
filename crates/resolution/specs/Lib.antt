-- The code of resolving, in the words of the crates resolution_rules and byte_streams.
--
--   Framing    delivered units, each after 4 bytes
--   Streams    a byte stream judged, unit by unit
--   Ranges     samples one after the other
pub mod Framing
pub mod Streams
pub mod Ranges
