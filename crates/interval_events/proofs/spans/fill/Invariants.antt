-- `fill` makes the numbers active, one by one.
use Rattle.slide_mapper.specs.Lent.{SameLists}
use Rattle.interval_events.proofs.Spanning.{Filling}
use Rattle.interval_events.proofs.spans.fill.Given as goal

abbrev pub invariant-loop-number : goal.invariant-loop-number
invariant-loop-number l = Filling l.numbers l.initial.lists l.lists l.at l.number-index × SameLists l.initial.lists l.lists
