-- Laws of the state of a walk.
--
--   States     how a walk goes on from a state
--   Standing   where a walk stands: top-level, or in an aggregator
--   Counts     what a walk has met from one state to another
--   Copying    a copy by two states
pub mod States
pub mod Standing
pub mod Counts
pub mod Copying
