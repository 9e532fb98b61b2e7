-- Writing a record.
--
--   Write     the answer: the refusals 4, 31, 29, or the record's bytes
--   Promise   what is promised of reading and writing
--   Steps     what the steps of the writer promise one another
pub mod Write
pub mod Promise
pub mod Steps
