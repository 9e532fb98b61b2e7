-- The form of a sample: when it is well formed, and how it is refused.
--
--   Check   the check as a definition
--   Rules   the rules of all units in plain facts, for laws
pub mod Check
pub mod Rules
