-- `list` holds a range until one comes that does not join it; those before are written.
use Rattle.candidate_ranges.proofs.Running.{Running}
use Rattle.candidate_ranges.proofs.runs.Runs.list.Given as goal

abbrev pub invariant-loop-i : goal.invariant-loop-i
invariant-loop-i l = Running l.self l.initial.lists l.lists l.held l.i
