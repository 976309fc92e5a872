-- Ranges: how ranges are joined, listed and written
pub mod Ranges
