-- A record as 18 numbers. Read in this order.
--
--   Indices   which number stands where
--   Numbers   the numbers of a record, read and written
--   Promise   what is promised of numbers that are read and written
pub mod Indices
pub mod Numbers
pub mod Promise
