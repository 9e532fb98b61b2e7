-- Decoder configuration records. Read in this order.
--
--   Layout    the bytes of a record, and what the kinds differ in
--   Trailers  what may end a record
--   Read      the refusals 8 to 13, and what an accepted record means
--   Fields    the bytes of given fields, and whether they fit a record
--   Parts     the same, part by part, as the writer finds it
--   Answers   what the code's answers say
pub mod Layout
pub mod Trailers
pub mod Read
pub mod Fields
pub mod Parts
pub mod Answers
