-- The code that judges a sample, in the words of the crate resolution_rules.
--
--   Steps   what the code answers
pub mod Steps
