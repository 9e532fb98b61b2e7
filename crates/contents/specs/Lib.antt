-- What a bundle holds.
--
--   Contents   the calls: how many tracks, references and samples, and each by its number
--   Answers    what the code's answers say
pub mod Contents
pub mod Answers
