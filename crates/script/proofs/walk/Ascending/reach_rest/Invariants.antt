-- `reach_rest` passes the hashes below this one: it stops at the first that is not, and so many are below.
use Prim.Native.Nat.{◌≤◌}
use Rattle.rules.specs.Score.{number_of}
use Rattle.script.proofs.walk.Ascending.reach_rest.Given as goal

abbrev pub invariant-loop-at : goal.invariant-loop-at
invariant-loop-at l = l.at ≤ number_of l.self.hashes.now l.hash
