-- Marks: the state of the walk over a sample's units at the end of each block of its bytes, kept in rows of numbers.
--
--   Marks   the rows, and what is told from them
--   Fits    that the numbers of a state are not too large
pub mod Marks
pub mod Fits
