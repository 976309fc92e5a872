-- Laws that other crates cite, as `Rattle.interval_events.proofs.NAME`.

-- Spanning: a step's counts, the score of a span, the spans round by round
pub mod Spanning
-- Keying: the taken hashes, and the keys of one kind
pub mod Keying
-- Merging: start and end keys, merged in place
pub mod Merging
-- Gathering: end keys sorted, start keys behind them, and their merge
pub mod Gathering
