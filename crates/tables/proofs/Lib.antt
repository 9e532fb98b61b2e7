-- Laws of any table.
--
--   Layouts     what a table says, number by number
--   Ranges      the samples of a track are a range
--   References  the references of a track, found one after the other
--   Numbers     a kind and its number
--   KeptCounts  a count kept for a sample, without a change to what a table says
pub mod Layouts
pub mod Ranges
pub mod References
pub mod KeptCounts
pub mod Numbers
