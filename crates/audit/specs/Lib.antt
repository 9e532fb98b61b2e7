-- The code of the audit in the words of the crate audit_rules.
--
--   Answers     what the answers of the code say
--   Steps       the steps of the code, over the recording that a table gives
pub mod Answers
pub mod Steps
