-- `below_in_four` adds 1 for each of the four that is below: those are the first of them, since they ascend.
use mathlib.Core.Path.{◌≡◌}
use Prim.Native.Nat.{◌+◌, min}
use Rattle.rules.specs.Score.{number_of}
use Rattle.script.proofs.walk.Ascending.below_in_four.Given as goal

abbrev pub invariant-loop-other : goal.invariant-loop-other
invariant-loop-other l = l.at + l.below ≡ min (l.at + l.other-index) (number_of l.self.hashes.now l.hash)
