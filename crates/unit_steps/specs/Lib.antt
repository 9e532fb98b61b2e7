-- What a walk over units meets.
--
--   Items    what stands at a place
pub mod Items
