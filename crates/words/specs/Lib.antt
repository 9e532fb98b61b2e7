-- The words that all definitions are written in. Only the refusal numbers are about video.
--
--   Tests            tests of numbers, and choice by a test
--   Refusals         a refusal number, an answer with a place, the first refusal of a list
--   RefusalNumbers   the numbers of 'Numbers for no', by name
--   Lists            what is taken from lists, from 1 on
--   Walks            lists of places, each found from the one before
--   Bytes            numbers in bytes, parts of bytes
--   Buffers          bytes written over a lent buffer
pub mod Tests
pub mod Refusals
pub mod RefusalNumbers
pub mod Lists
pub mod Walks
pub mod Bytes
pub mod Buffers
