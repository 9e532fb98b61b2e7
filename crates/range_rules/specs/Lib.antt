-- A range of samples in one call. Read in this order.
--
--   Ranges   what the call on a bundle answers
--   Rules    the same in plain facts, in which the promises are stated
pub mod Ranges
pub mod Rules
