-- `run` answers after each step what the rules' moves answer: each block goes on with what those before it did.
use Prim.Native.Nat.{◌-◌}
use Rattle.script_work.proofs.Running.{Running}
use Rattle.script_work.proofs.run.Given as goal

abbrev pub invariant-loop-j : goal.invariant-loop-j
invariant-loop-j l = Running l.steps l.initial.lists l.initial.looks l.initial.at 0 l.n l.lists l.looks l.at l.j

abbrev pub decreases-loop-j : goal.decreases-loop-j
decreases-loop-j l = l.n - l.j
