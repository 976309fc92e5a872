-- `fill` keeps what is done of the column, and that what is left is the rest of it.
use mathlib.Core.Path.{◌≡◌}
use lib.ListN.{length}
use Rattle.job.specs.Units.{rest_of}
use Rattle.job.proofs.Filling.{Filling}
use Rattle.job.proofs.units.Units.fill.Given as goal

abbrev pub invariant-loop-unit : goal.invariant-loop-unit
invariant-loop-unit g l = record {
  size : l.units.size ≡ l.self.size;
  filling : Filling (g.T.Entry.at l.offset) (rest_of l.self) (rest_of l.units) l.initial.out l.out l.n;
}

abbrev pub decreases-loop-unit : goal.decreases-loop-unit
decreases-loop-unit g l = length (rest_of l.units)
