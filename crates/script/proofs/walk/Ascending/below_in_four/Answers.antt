-- `below_in_four` adds 1 for each of the four that is below: those are the first of them, since they ascend.
use Prim.Native.Nat.{ℕ}
use native.Mathlib.Omega.{arith}
use lib.ListN.{length-take}
use Rattle.script.proofs.Reaching.{below_more}
use Rattle.script.proofs.walk.Ascending.below_in_four.Goals as goal

pub loop-other-preserved : goal.loop-other-preserved
loop-other-preserved c =
    let s = c.args.self in
    rw c.from-below.ensures (below_more s.hashes.now s.asc c.args.hash c.args.at _ _ _ (omega arith) (omega (arith, length-take {A = ℕ})) c.loop-other.invariant)
