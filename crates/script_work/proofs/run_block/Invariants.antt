-- `run_block` goes on with a run: each turn answers one step more.
use Rattle.script_work.proofs.Running.{Running}
use Rattle.script_work.proofs.run_block.Given as goal

abbrev pub invariant-loop-j : goal.invariant-loop-j
invariant-loop-j l = Running l.steps l.initial.lists l.initial.looks l.initial.at l.from l.end l.lists l.looks l.at l.j
