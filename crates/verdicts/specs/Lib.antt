-- Samples judged by what is known of the samples that their extractors name.
--
--   Surveys    what a number says of a sample's form, and the rows of its marks
--   Amounts    what an extractor of a sample copies, counted
--   Kept       judgements kept in a table
pub mod Surveys
pub mod Amounts
pub mod Kept
