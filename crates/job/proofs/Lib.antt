-- UnitLists: the units of n bytes in a list
pub mod UnitLists
-- Numbers: bytes as numbers
pub mod Numbers
-- Finding: the units of a tag from a place of the job on
pub mod Finding
-- Filling: a column, unit by unit
pub mod Filling
-- Accepted: what is known of a file in which nothing is wrong
pub mod Accepted
-- Decoding: what the second pass reads is what the rules decode
pub mod Decoding
-- Reading: the verdict and the promise of `read`
pub mod Reading
