-- Where delivered units stand in the words of the crate resolution_rules.
--
--   Answers     what the code answers on a bundle and any table
pub mod Answers
