-- Laws of buffers.
--
--   Sizes   buffers that are enough for every bundle
pub mod Sizes
