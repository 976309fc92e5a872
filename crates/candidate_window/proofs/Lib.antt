pub mod Checking
pub mod Whole
pub mod Unique
pub mod Refuted
