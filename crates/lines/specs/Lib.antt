-- Written: bytes written into an array at an offset
pub mod Written
