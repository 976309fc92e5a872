-- Laws that other crates cite, as `Rattle.sweep.proofs.NAME`.

-- Upto: the numbers below n, as a list
pub mod Upto
-- Active: the shared count is the score of the active items; one item more, one less
pub mod Active
-- Numbers: scoring coordinate numbers is scoring hashes
pub mod Numbers
-- Beginning: the mapper before its first item, from marked count words
pub mod Beginning
-- Lent: the work lists as a struct
pub mod Lent
