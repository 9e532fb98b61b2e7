-- Laws of the byte stream.
--
--   Streams      what writing a byte stream promises: read this first
--   Reading      what reading one promises
--   Faults       why one is refused, and where
--   Samples      the sample made of its units, and the call
--   Forbidden    three bytes that may not stand in one
--   Units        which units can stand in one: the test and the facts
--   Stops        where a unit stops, and how the stream goes on there
--   Places       the same, by place, as the code looks for it
--   Coded        one unit more in front of a stream
--   Splits       a stream split at its start codes
--   Inside       33 inside a unit
pub mod Forbidden
pub mod Coded
pub mod Units
pub mod Splits
pub mod Streams
pub mod Inside
pub mod Stops
pub mod Places
pub mod Reading
pub mod Faults
pub mod Samples
