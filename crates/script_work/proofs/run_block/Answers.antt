-- `run_block` goes on with a run: each turn answers one step more.
use Prim.Native.Nat.{◌<◌}
use native.Mathlib.Omega.{arith}
use lib.ListN.{length}
use Rattle.script_work.proofs.Running.{next_fits, running_step}
use Rattle.script_work.proofs.run_block.Goals as goal

pub step-at-requires-clause-room : goal.step-at-requires-clause-room
step-at-requires-clause-room c =
    let in_run : c.loop-j.j < length c.args.steps.indexes.now = omega arith in
    next_fits c.loop-j.invariant.further.underway in_run _

pub loop-j-preserved : goal.loop-j-preserved
loop-j-preserved c = running_step c.loop-j.invariant (omega arith) (omega arith) (rw c.from-kind.ensures at c.step-at.ensures) c.put.ensures.same c.put.ensures.put
