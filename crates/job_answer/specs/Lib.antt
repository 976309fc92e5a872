-- Mapped: the job that stands at the fronts of the lists, and its answer
pub mod Mapped
