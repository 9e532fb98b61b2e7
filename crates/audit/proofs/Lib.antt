-- Laws for the code of the audit.
--
--   Steps      the steps of the code
--   Answered   what the calls answer, as the code takes them
--   Lining     lines by what a table keeps of the samples
pub mod Steps
pub mod Answered
pub mod Lining
