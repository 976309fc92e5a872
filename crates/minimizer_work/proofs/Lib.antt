-- Working: the work for one range
pub mod Working
-- Early: which ranges are early nones
pub mod Early
