-- Laws of resolving.
--
--   Promises   what resolving promises: read this first
--   Delivered  what is delivered, unit by unit, for loops
--   Good       when a sample is good, and how it is refused
--   Exactly    what a good sample delivers
--   Once       every unit is delivered once, in its place
--   Calls      what the calls answer
--   Streams    what a sample is as a byte stream
--   Ranges     samples one after the other
--   Amounts    own and copied bytes as sums over all units
--   Sizes      how much a good sample delivers, at most
--   Extracted  what the function on two samples gives
--   Readers    the reader of the first layout is sound
pub mod Promises
pub mod Delivered
pub mod Good
pub mod Exactly
pub mod Once
pub mod Calls
pub mod Streams
pub mod Ranges
pub mod Amounts
pub mod Sizes
pub mod Extracted
pub mod Readers
