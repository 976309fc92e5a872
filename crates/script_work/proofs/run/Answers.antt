-- `run` answers after each step what the rules' moves answer: each block goes on with what those before it did.
use native.Mathlib.Omega.{arith}
use Rattle.script_work.proofs.Running.{running_all, further_whole}
use Rattle.script_work.proofs.run.Goals as goal

pub returns-clause-answered : goal.returns-clause-answered
returns-clause-answered c = further_whole (running_all c.loop-j.invariant (omega arith))
