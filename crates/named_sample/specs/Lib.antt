-- The sample that an extractor names, in the words of the crate resolution_rules.
--
--   Answers     what the code answers, and the steps to it
pub mod Answers
