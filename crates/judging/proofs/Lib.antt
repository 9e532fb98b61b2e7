-- Laws for the code that judges a sample.
--
--   Judgements   what a judgement says
pub mod Judgements
pub mod Numbers
