-- What a sample delivers, unit by unit.
--
--   Steps        the cursor's start and the step from a cursor, on any recording and any cursor
--   Deliveries   what a sample delivers, each unit with where it comes from
pub mod Steps
pub mod Deliveries
