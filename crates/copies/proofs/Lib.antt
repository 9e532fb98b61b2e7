-- Laws of copies.
--
--   Flat      all units of a well-formed sample as one walk
--   Runs      units that stand one after another: top-level ones, or those of one aggregator
--   Copies    where a copy starts and ends, and its units
--   Rest      what is left of a walk, and what a loop has counted or looked for before
--   Answers   what code says of a copy, by parts
--   Copied    what a copy has; what is copied, exactly
--   Included  a copy from a unit that an aggregator includes
--   Ranges    where a copy ends, on any bytes
--   Plain     the units that `extracted` finds
--   Sizes     units that do not overlap, and their sizes
pub mod Flat
pub mod Runs
pub mod Copies
pub mod Rest
pub mod Answers
pub mod Copied
pub mod Included
pub mod Sizes
pub mod Ranges
pub mod Plain
