-- Laws for the code of a range.
--
--   Answers    what the code answers, as it takes the calls below it
pub mod Answers
