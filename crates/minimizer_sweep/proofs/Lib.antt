-- Laws that other crates cite, as `Rattle.minimizer_sweep.proofs.NAME`.

-- Checking: the chain of checks, and what a fine one tells
pub mod Checking
-- Answering: early nones, and the place of what was found
pub mod Answering
-- Whole: the promise of the call
pub mod Whole
-- Unique: the contract determines the answer and every lent list
pub mod Unique
-- Refuted: wrong sweeps that the contract refuses
pub mod Refuted
