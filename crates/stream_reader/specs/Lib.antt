-- The steps of reading a byte stream by place.
pub mod Steps
