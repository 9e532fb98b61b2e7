-- Laws for the code that says where delivered units stand.
--
--   Parts      where units stand, two numbers each, as the list grows
--   Puts       these numbers written
--   Answered   what the call answers, as the code takes it
pub mod Parts
pub mod Puts
pub mod Answered
