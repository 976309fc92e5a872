-- `sweep_events` begins, makes the numbers active, and runs over the keys.
use mathlib.Core.Path.{refl}
use Rattle.interval_work.proofs.Beginning.{begin_empty, begin_filled}
use Rattle.interval_work.proofs.sweep_events.Goals as goal

pub fill-full-requires : goal.fill-full-requires
fill-full-requires c = begin_empty c.requires _ refl c.begin-at.ensures.1.slid

pub run-requires : goal.run-requires
run-requires c = begin_filled c.requires _ _ _ refl c.from.ensures c.fill-full.ensures.filled
