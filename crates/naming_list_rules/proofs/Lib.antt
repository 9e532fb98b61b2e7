-- Laws of the naming list.
--
--   Promises   what the naming list promises: read this first
--   Replaced   a recording in which the bytes of a sample are replaced, seen from another sample
--   Listing    what the list holds, in which order, and that it does not depend on the bytes of the sample
--   Others     samples that are not in the list resolve as before
--   Entries    the bytes of the list read back
--   Calls      what the naming call answers
--   Sizes      how long the list is, at most
pub mod Promises
pub mod Replaced
pub mod Listing
pub mod Others
pub mod Entries
pub mod Calls
pub mod Sizes
