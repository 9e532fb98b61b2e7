-- The byte stream of ISO/IEC 14496-10, Annex B (02, [2] and [3]), over lists of bytes and lists of units; a unit is a list of bytes. Apart
-- from bundles: units in, bytes out; bytes in, units out.
--
--   Grammar   what a byte stream is, and which units can stand in one, in plain facts
--   Writing   the byte stream of units, or 32
--   Faults    why bytes are no byte stream that can be read, in plain facts
--   Reading   the units of a byte stream, or 33 or 34; the sample made of them, or 11 or 29
--   Places    what the code looks for, by place
pub mod Grammar
pub mod Writing
pub mod Faults
pub mod Reading
pub mod Places
