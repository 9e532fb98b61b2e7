-- Laws of a range of samples in one call.
--
--   Promises   what the call promises: read this first
--   Lines      the lines of a range, which are those of the audit
--   Splits     a range in two, and one sample of it
--   Singles    a range and its samples one by one
--   Calls      what the call on a bundle answers
--   Others     samples that are not in the naming list of one whose bytes are replaced
pub mod Promises
pub mod Lines
pub mod Splits
pub mod Calls
pub mod Singles
pub mod Others
