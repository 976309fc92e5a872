-- What the parts of the work for one range promise each other.

-- Given: the call's lists as the rules take them
pub mod Given
-- Work: what the work asks and answers
pub mod Work
