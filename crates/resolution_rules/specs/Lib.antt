-- What resolving a sample to plain NAL units means. Read in this order.
--
--   Resolving   what a sample of a recording delivers, refusals 14 to 28
--   Amounts     how many bytes of its own and how many copied ones
--   Calls       what the calls on a bundle answer, refusals 1 to 30
--   Ranges      samples one after the other
--   Rules       the same in plain facts, in which the promises are stated
--   Readers     what is proved of a reader of bundles
pub mod Resolving
pub mod Amounts
pub mod Calls
pub mod Ranges
pub mod Rules
pub mod Readers
