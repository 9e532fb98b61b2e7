-- Laws for the code that finds one delivered unit.
--
--   Seeks      a unit found by its number
--   Answered   what the calls answer, as the code takes them
pub mod Seeks
pub mod Answered
