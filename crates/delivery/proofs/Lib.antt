-- Laws of the delivery of a sample, unit by unit.
--
--   Steps        the step by what stands there, and by what an extractor names
--   Falling      each step makes less of what is left
--   Deliveries   what a sample delivers, each unit with where it comes from
--   Sources      own units stand in the sample; copied ones are what `extracted` gives
--   Rests        what is left, by the step
--   Passing      a walk over all units of a well-formed sample
--   FromStart    from the start, what is left is what a good sample delivers
--   Folds        loops over delivered units
pub mod Steps
pub mod Falling
pub mod Deliveries
pub mod Sources
pub mod Rests
pub mod Passing
pub mod FromStart
pub mod Folds
