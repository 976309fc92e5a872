-- What the parts of a sweep promise each other.

-- Work: cleared lists, and a best that can be placed
pub mod Work
-- Active: query and active items as coordinate numbers
pub mod Active
-- Beginning: work lists at their needed sizes, and the mapper before its first item
pub mod Beginning
-- Lent: the work lists as a struct
pub mod Lent
