pub mod UnitFates
pub mod Filled
pub mod Loops
pub mod Answers
