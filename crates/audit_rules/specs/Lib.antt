-- What an audit means. Read in this order.
--
--   Auditing   the line of each sample, the tally, and what the call on a bundle answers
--   Rules      the same in plain facts, in which the promises are stated
pub mod Auditing
pub mod Rules
