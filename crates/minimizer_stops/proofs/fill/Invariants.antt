-- `fill` makes the items before e active, one by one.
use Rattle.minimizer_stops.specs.Stops.{Holds, Kept}
use Rattle.minimizer_stops.proofs.fill.Given as goal

abbrev pub invariant-loop-number : goal.invariant-loop-number
invariant-loop-number l = record {
  holds : Holds l.numbers l.lists l.at 0 l.number-index;
  kept : Kept l.fn.lists l.lists;
}
