-- The naming list.
--
--   Naming   what the list of a sample holds, and what the call on a bundle answers
--   Rules    the same in plain facts, in which the promises are stated
pub mod Naming
pub mod Rules
