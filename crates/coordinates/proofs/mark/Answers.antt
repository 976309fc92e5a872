-- `coordinates::mark` meets its contract: the loop keeps `Marking`. Assumes nothing.
use native.Mathlib.Omega.{arith}
use Rattle.coordinates.proofs.Marks.{marking_step, marking_end}
use Rattle.coordinates.proofs.mark.Goals as goal

pub loop-place-preserved : goal.loop-place-preserved
loop-place-preserved c = marking_step c.loop-place.invariant (omega arith)

pub returns : goal.returns
returns c = marking_end c.loop-place.invariant (omega arith)
