-- `fill_groups` puts the keys of the intervals of each kept group after those of the groups before it.
use Rattle.interval_hits.proofs.Gathering.{Filling}
use Rattle.interval_hits.proofs.IntervalHits.fill_groups.Given as goal

abbrev pub invariant-loop-group : goal.invariant-loop-group
invariant-loop-group l = Filling l.self l.initial.keys l.keys l.intervals l.hits l.at l.group-index
