-- `begin` stores the query's flags as bits, a word a turn; then the last set bit is the pivot, and it is there since the query is not empty.
use mathlib.Core.Path.{◌≡◌}
use lib.ListN.{length}
use Rattle.slide_mapper.proofs.First.{Filled}
use Rattle.slide_mapper.proofs.begin.Given as goal

abbrev pub invariant-loop-w : goal.invariant-loop-w
invariant-loop-w l = (l.n ≡ length l.counts) × Filled l.counts l.initial.words l.initial.summary l.words l.summary l.w
