-- Laws of the tally.
--
--   Laws   the tally of no outcome, of one outcome more, and what its numbers add to
pub mod Laws
