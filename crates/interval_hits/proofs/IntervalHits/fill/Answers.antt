-- `fill` takes all hits as one group where none is dropped, since then the kept hits are all hits.
use Rattle.interval_hits.proofs.Gathering.{flat_filled}
use Rattle.interval_hits.proofs.IntervalHits.fill.Goals as goal

pub returns-then-none_dropped : goal.returns-then-none_dropped
returns-then-none_dropped c = flat_filled c.args.self (c.none_dropped.ensures c.if-none_dropped.true) c.put-intervals.ensures
