-- What the programs take, without what they print.
--
--   Decimal   the argument of `./names` as a number
--   Input     the limit of the programs' input, and their buffers
pub mod Decimal
pub mod Input
