pub mod Cutting
pub mod Events
pub mod Sweeping
