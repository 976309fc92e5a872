-- `mark` sets the count word of a query hash a turn, at its place.
use Rattle.script_work.proofs.Marks.{Marking}
use Rattle.script_work.proofs.mark.Given as goal

abbrev pub invariant-loop-place : goal.invariant-loop-place
invariant-loop-place l = Marking l.query.hashes.now l.query.coords.now l.counts l.place-index
