-- Given: the call's lists as the rules take them
pub mod Given
