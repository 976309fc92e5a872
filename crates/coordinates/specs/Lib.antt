-- Coordinates: what the call asks and answers
pub mod Coordinates
-- Packed: the keys of the way that is meant to run
pub mod Packed
