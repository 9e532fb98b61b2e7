-- One delivered unit in the words of the crate resolution_rules.
--
--   Answers     what the answers of the code say
pub mod Answers
