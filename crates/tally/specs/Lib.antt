-- The tally.
--
--   Tallies   the tally of outcomes, and a tally raised by one
pub mod Tallies
