-- Laws that other crates cite, as `Rattle.interval_work.proofs.NAME`.

-- Beginning: from the keys of a part to the sweep over them
pub mod Beginning
-- Numbering: flags and numbers at the fronts of the lent lists
pub mod Numbering
-- Meaning: what the lists of a part tell of the rules' sweep
pub mod Meaning
-- Parting: the sweep over a part, from the checks to the rules
pub mod Parting
-- Bounding: the taken intervals stand between the bounds
pub mod Bounding
