-- What the parts of the sweep over the stops promise each other.
pub mod Stops
