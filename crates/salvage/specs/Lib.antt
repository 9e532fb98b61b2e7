-- The code that salvages samples, in the words of the crate salvage_rules.
--
--   Steps   the steps of the code, and its answers
pub mod Steps
