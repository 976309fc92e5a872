-- `list` holds a range until one comes that does not join it; those before are written.
use native.Mathlib.Omega.{arith}
use Rattle.candidate_ranges.proofs.Running.{run_order, running_skip, running_push, running_end}
use Rattle.candidate_ranges.proofs.runs.Runs.list.Goals as goal

pub range_of_run-requires : goal.range_of_run-requires
range_of_run-requires c = run_order c.args.self c.loop-i.i (omega arith)

pub loop-i-preserved-in_default : goal.loop-i-preserved-in_default
loop-i-preserved-in_default c = running_skip c.loop-i.invariant (omega arith) c.in_default.ensures

pub loop-i-preserved : goal.loop-i-preserved
loop-i-preserved c = running_push c.loop-i.invariant (omega arith) c.in-Some.next c.in-Some.ensures c.push-held.ensures c.requires

pub returns : goal.returns
returns c = let end = running_end c.loop-i.invariant (omega arith) c.requires c.finish.ensures in record { listed = end.0; few = end.1 }
