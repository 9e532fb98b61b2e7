-- Laws of the check.
--
--   Faults     steps that answer a fault, as verdicts
--   Walks      the two walks of the check, unit by unit
--   Refusals   the numbers and places of refusals
--   Laws       what upper crates need of a well-formed sample, and what the check promises
pub mod Faults
pub mod Walks
pub mod Refusals
pub mod Laws
