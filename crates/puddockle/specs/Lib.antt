-- The C interface. Its functions are named in include/puddockle.h.
--
--   Returns   what a call gives back: the number, and what stands behind the pointers
pub mod Returns
