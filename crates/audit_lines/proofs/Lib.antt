-- Laws of the lines of an audit.
--
--   Promises   what `line_of` reads of the lines that an audit left: read this first
--   Reading    what a line says
pub mod Promises
pub mod Reading
