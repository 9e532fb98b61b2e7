-- Laws of the table that is filled from a bundle.
--
--   Promises    the recording that a filled table gives: read this first
--   Sorted      samples in order: how many stand before a track's
--   Rows        the rows of a table that is filled, one after the other
--   Recording   the numbers of the table of a recording, and that they give it
--   Reading     a table that was filled by any reader of bundles
--   Accepted    the answer and the table of an accepted bundle, by what the code reads of it
pub mod Promises
pub mod Sorted
pub mod Rows
pub mod Recording
pub mod Reading
pub mod Accepted
