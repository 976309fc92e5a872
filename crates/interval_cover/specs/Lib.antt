-- Intervals: sorted keys of intervals
pub mod Intervals
-- Cover: what the parts of the sweep over starts and ends promise each other
pub mod Cover
