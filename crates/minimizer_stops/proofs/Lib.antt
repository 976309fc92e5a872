-- Laws that other crates cite, as `Rattle.minimizer_stops.proofs.NAME`.

-- Moving: from a stop to the next, by the positions
pub mod Moving
-- Holding: which items are active after a move
pub mod Holding
-- Running: the best of what is scored so far and of the stops to come is the best of all
pub mod Running
-- Sweeping: the first stop, and the best of all from the best with it
pub mod Sweeping
-- Positions: items at the same positions have the same stops
pub mod Positions
-- Meaning: the sweep over numbers and positions finds the rules' best
pub mod Meaning
