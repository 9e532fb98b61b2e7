-- Laws and theorems about the definitions of records.
--
--   Shapes       a byte as flags, fixed bits and a value; what holds of each kind's row
--   Endings      the ways to end a record
--   Answers      what the reader's answer says
--   Parsed       an accepted record, taken apart
--   BytesBack    a record that was read makes the bytes that were read
--   Numbers      what numbers that fit say
--   ReadsBack    fields and sets that fit are read back from the bytes that they make
--   Fits         what fits, set by set
--   Refusals     every refusal is one of the table
pub mod Shapes
pub mod Endings
pub mod Answers
pub mod Parsed
pub mod BytesBack
pub mod Numbers
pub mod ReadsBack
pub mod Fits
pub mod Refusals
