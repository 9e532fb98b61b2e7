-- What an extractor copies of the sample that it names.
--
--   Copies      where a copy starts and ends, the units in it, refusals 25 to 28
--   Flat        all units of a sample as one walk
--   Range       where a copy ends, on any bytes
--   Extracted   a copied unit as a part of the sample that it is copied from
--   Written     the length that stands before a unit in the output
--   Rules       the rules of a copy in plain facts, for laws
pub mod Copies
pub mod Flat
pub mod Range
pub mod Extracted
pub mod Written
pub mod Rules
