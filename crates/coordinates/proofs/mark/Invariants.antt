-- `coordinates::mark` meets its contract: the loop keeps `Marking`. Assumes nothing.
use Rattle.coordinates.proofs.Marks.{Marking}
use Rattle.coordinates.proofs.mark.Given as goal

abbrev pub invariant-loop-place : goal.invariant-loop-place
invariant-loop-place l = Marking l.initial.counts l.places l.counts l.place-index
