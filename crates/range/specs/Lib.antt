-- The code of a range, in the words of the crate range_rules.
--
--   Answers    what the answers of the code say
pub mod Answers
