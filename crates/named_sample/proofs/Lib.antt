-- Laws for the code that finds the sample an extractor names.
--
--   Seeks   a walk that looks for an extractor by its place
--   Named   what the calls answer, as the code takes them
pub mod Seeks
pub mod Named
