-- Laws for the code that judges samples by what is known of them.
--
--   Known       what a number tells of a sample, and a survey with one sample more
--   Copied      what an extractor copies, counted
--   Counting    a walk over the units of a sample that counts
--   Keeping     judgements kept in a table
--   Ranges      samples first to last judged
pub mod Known
pub mod Copied
pub mod Counting
pub mod Keeping
pub mod Ranges
