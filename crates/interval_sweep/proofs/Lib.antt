-- Laws that other crates cite, as `Rattle.interval_sweep.proofs.NAME`.

-- Checking: the chain of checks, and what a fine one tells
pub mod Checking
-- Answering: the early nones, and that a best can be placed
pub mod Answering
-- Whole: the promise of the call
pub mod Whole
-- Unique: the contract determines the answer and all memory
pub mod Unique
-- Refuted: wrong sweeps that the contract refuses
pub mod Refuted
