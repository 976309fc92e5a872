pub mod Bits
pub mod Summary
pub mod Nearest
pub mod Props
