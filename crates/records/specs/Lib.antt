-- The reader of decoder configuration records. What a record means stands in crates/record_rules.
--
--   Steps     what the steps of the reader promise one another
pub mod Steps
