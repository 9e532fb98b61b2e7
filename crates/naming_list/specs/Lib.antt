-- The code that lists the extractors that name a sample, in the words of the crate naming_list_rules.
--
--   Steps     the steps of the code
--   Entries   what an entry of the list says
pub mod Steps
pub mod Entries
