-- Laws of which sample is named.
--
--   Halving  the search by halving, binary digits
--   Links    what 23 and 24 say, the sample named, in any layout
--   Order    where the samples of a track are neighbours and times rise: the base, signed steps from it
--   Naming   what the code's answer says
--   Words    laws that belong to words
--   Cases    the code case by case, in any table: for the proofs of this crate alone
pub mod Words
pub mod Halving
pub mod Links
pub mod Order
pub mod Naming
mod Cases
