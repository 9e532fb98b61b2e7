-- Laws for the code of the naming list.
--
--   Namers     a walk over a sample that looks for extractors
--   Listings   loops over the samples, and what the call answers
--   Entries    an entry that was written is read back
pub mod Namers
pub mod Listings
pub mod Entries
