-- What a walk over all units of a sample knows at a place, so that it can go on from there, and a copy told from two such states.
--
--   States     the state of the walk, how it goes on
--   Amounts    what an extractor copies, counted; the same by the states at its start and its end
--   Standing   where a walk stands, in plain facts
pub mod States
pub mod Amounts
pub mod Standing
