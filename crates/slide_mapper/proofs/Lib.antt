pub mod State
pub mod Marked
pub mod First
pub mod Lent
