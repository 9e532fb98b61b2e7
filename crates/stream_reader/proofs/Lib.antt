-- Laws of the reader of byte streams.
--
--   Found      a unit at a place: where it stops, and what follows
--   Judged     what is said of a unit
--   Walks      a step from unit to unit
--   Front      what stands before the first start code
--   Ends       how long a unit is that has a byte that may not stand in it
--   Totals     how much a sample takes
--   Measures   the loop that measures
--   Writes     the loop that writes
--   Calls      what the call answers
pub mod Found
pub mod Judged
pub mod Walks
pub mod Front
pub mod Ends
pub mod Totals
pub mod Measures
pub mod Writes
pub mod Calls
