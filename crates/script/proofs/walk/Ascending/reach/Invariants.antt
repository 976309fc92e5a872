-- `reach` passes four hashes while all four are below this one; where fewer are, or fewer than four are left, the rest tells the number.
use Prim.Native.Nat.{◌-◌, ◌≤◌}
use lib.ListN.{length}
use Rattle.rules.specs.Score.{number_of}
use Rattle.script.proofs.walk.Ascending.reach.Given as goal

abbrev pub invariant-loop-at : goal.invariant-loop-at
invariant-loop-at l = l.at ≤ number_of l.self.hashes.now l.hash

abbrev pub decreases-loop-at : goal.decreases-loop-at
decreases-loop-at l = length l.self.hashes.now - l.at
