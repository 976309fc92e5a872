pub mod Number
pub mod Words
pub mod Kept
pub mod Search
pub mod Choice
pub mod Stored
