-- What the parts of the work for one range promise each other.

-- Work: the sweep over a part of the intervals
pub mod Work
