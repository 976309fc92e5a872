-- Picks: a choice whose test is known
pub mod Picks
-- Searching: a loop over a table, for the first row that passes a test
pub mod Searching
-- Faults: what is wrong with one field, test by test
pub mod Faults
-- Heads: the header at an offset
pub mod Heads
-- Fields: the data of all fields with a tag
pub mod Fields
-- Steps: the step over a field, and the reading of the rules
pub mod Steps
-- Walking: the first pass, field by field
pub mod Walking
