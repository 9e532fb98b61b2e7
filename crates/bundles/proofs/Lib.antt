-- Laws of bundles.
--
--   Promises    what holds of every accepted and of every refused bundle: read this first
--   Sections    what the four sections of an accepted bundle say, taken apart
--   Order       the order of the samples
--   Tiling      the samples lie without gaps in section four
--   Replacing   a sample's bytes replaced
--   Refusals    numbers and places of refusals
--   Passing     a walk over numbers, number by number
--   Checking    laws for the steps of the check
pub mod Promises
pub mod Sections
pub mod Order
pub mod Tiling
pub mod Replacing
pub mod Refusals
pub mod Passing
pub mod Checking
