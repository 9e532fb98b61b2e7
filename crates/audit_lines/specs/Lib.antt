-- What is read of the lines of an audit.
--
--   Lines    what a line says
--   Rules    the same in plain facts, in which the promises are stated
pub mod Lines
pub mod Rules
