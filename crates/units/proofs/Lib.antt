-- Laws of units, for any L.
--
--   Units     what a unit without 14 to 18 has, what an included unit without a fault has
--   Walks     walks over units, what they list and where they come to
--   Covers    21 by a walk over what an aggregator covers
--   Steps     what the total functions give where there is no fault
pub mod Units
pub mod Walks
pub mod Covers
pub mod Steps
