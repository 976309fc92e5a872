-- Sound: query and coordinates that passed their checks
pub mod Sound
-- Looks: the output lists
pub mod Looks
-- Work: what the parts of the work promise each other
pub mod Work
