-- A track's kind and its length size, L; the header of a unit; the size of a place.
pub mod Kinds
pub mod Sizes
pub mod Headers
pub mod Places
pub mod Answers
pub mod Faults
