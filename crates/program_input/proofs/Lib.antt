-- The laws of what the programs take.
--
--   Reading      digits read front to back
--   InputLimit   the limit of the programs' input
--   BufferParts  a buffer that is filled part by part
pub mod Reading
pub mod InputLimit
pub mod BufferParts
