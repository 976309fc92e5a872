pub mod Checking
pub mod Balance
pub mod Whole
pub mod Unique
pub mod Refuted
