-- Laws of the audit.
--
--   Promises   what the audit promises: read this first
--   Refusals   number and place of a sample's refusal
--   Outcomes   what the audit finds of a sample
--   Lines      a line a sample, in order
--   Reading    what is read back from a line
--   Counts     what the tally counts
--   Calls      what the call on a bundle answers
--   Steps      laws for a loop over the samples
pub mod Promises
pub mod Refusals
pub mod Outcomes
pub mod Lines
pub mod Reading
pub mod Counts
pub mod Calls
pub mod Steps
