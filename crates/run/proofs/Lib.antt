-- Fronts: the job at the fronts of the filled lists is the rules'
pub mod Fronts
-- Running: the promise of `run`
pub mod Running
-- Printed: what the printed bytes tell
pub mod Printed
