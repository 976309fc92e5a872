pub mod Filling
pub mod Union
pub mod Marks
pub mod Ranks
pub mod Walk
