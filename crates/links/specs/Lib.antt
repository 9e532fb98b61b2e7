-- Which sample an extractor names, by the layout of a recording alone.
--
--   Halving   the search by halving, binary digits
--   Links     the linked track, the base, the sample named; refusals 23 and 24
--   Order     layouts in which the samples of a track are neighbours
--   Named     what the code answers
pub mod Halving
pub mod Links
pub mod Order
pub mod Named
