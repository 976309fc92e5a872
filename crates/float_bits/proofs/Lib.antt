-- Nans: which bit patterns and which floats are a NaN
pub mod Nans
