-- `next_unit` keeps what is left, field by field.
use Prim.Native.Nat.{◌-◌}
use mathlib.Core.Path.{◌≡◌}
use lib.ListN.{length}
use Rattle.job.specs.Units.{rest_of}
use Rattle.job.proofs.units.Units.next_unit.Given as goal

abbrev pub invariant-loop-self : goal.invariant-loop-self
invariant-loop-self l = record { rest : rest_of l.self ≡ rest_of l.initial.self; size : l.self.size ≡ l.initial.self.size }

abbrev pub decreases-loop-self : goal.decreases-loop-self
decreases-loop-self l = length l.self.reader.job.now - l.self.reader.offset
