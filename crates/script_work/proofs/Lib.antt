pub mod Marks
pub mod Running
pub mod Whole
