-- What is kept of a damaged sample (02, [11]).
--
--   Salvage   the new sample and the list of changes
--   Calls     what the calls answer
pub mod Salvage
pub mod Calls
