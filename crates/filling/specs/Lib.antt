-- The table that is filled from an accepted bundle, and the answer.
pub mod Filling
