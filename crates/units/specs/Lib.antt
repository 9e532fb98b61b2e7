-- The units of a sample, in the words of document 01, 'Units in a sample'.
--
--   Units         a unit at a place, its refusals 14 to 18; the top-level units and their borders
--   Extractors    an extractor's fields, its refusal 22
--   Aggregators   what an aggregator includes and covers; refusals 19 to 22 of an included unit, 21; all units, all extractors
--   Rules         the same rules in plain facts, for laws
--   Steps         what the total functions for walks give
pub mod Units
pub mod Extractors
pub mod Aggregators
pub mod Rules
pub mod Steps
