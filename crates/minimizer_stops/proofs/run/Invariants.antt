-- `run` scores every stop: the best so far with the stops to come is the best of all.
use Prim.Native.Nat.{◌+◌, ◌-◌}
use lib.ListN.{length}
use Rattle.minimizer_stops.proofs.Running.{Running}
use Rattle.minimizer_stops.proofs.run.Given as goal

abbrev pub invariant-loop-at : goal.invariant-loop-at
invariant-loop-at l = Running l.positions l.numbers l.w l.last l.fn.lists l.initial.stop l.initial.best l.lists l.at l.stop l.best l.windows

abbrev pub decreases-loop-at : goal.decreases-loop-at
decreases-loop-at l = length l.positions + length l.positions - (l.stop.b + l.stop.e)
