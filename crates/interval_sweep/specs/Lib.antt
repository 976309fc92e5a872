-- What the parts of the interval sweep promise each other.

-- Given: the call's lists as the rules take them
pub mod Given
-- Answer: from what a sweep found to the answer
pub mod Answer
