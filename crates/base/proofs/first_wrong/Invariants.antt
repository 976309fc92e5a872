-- `base::first_wrong` finds the first wrong place: the loop keeps `Checking` at the order that is asked for. Assumes nothing.
use Prim.Native.Nat.{◌-◌}
use Rattle.base.specs.OrderChecks.{in_order}
use Rattle.base.proofs.OrderChecks.{Checking}
use Rattle.base.proofs.first_wrong.Given as goal

abbrev pub invariant-loop-i : goal.invariant-loop-i
invariant-loop-i g l = Checking (in_order l.strict) (g.T.Key.numbers l.keys) l.n l.last l.i

abbrev pub decreases-loop-i : goal.decreases-loop-i
decreases-loop-i g l = l.n - l.i
