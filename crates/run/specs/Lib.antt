-- Held: the job that stands at the fronts of the lists
pub mod Held
