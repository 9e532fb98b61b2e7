-- Laws for the code that tells what a bundle holds.
--
--   Places     where track entries stand
--   Answered   what the calls answer, as the code takes them
pub mod Places
pub mod Answered
