-- The interval sweep's promise, over arrays that are never too short, is the rules' answer. Assumes nothing.
use Prim.Native.Nat.{ℕ}
use lib.ListN.{replicate, length-replicate}
use Rattle.job_answer.specs.Mapped.{spans_of}
use Rattle.job_answer.proofs.Roomy.{interval_done_lem, arrays, roomy}
use Rattle.job_answer.proofs.sweep_intervals.Goals as goal

pub returns : goal.returns
returns c =
    let j = c.args.job.now in
    interval_done_lem (spans_of j) j.few_hashes j.few_items arrays roomy {keys = replicate 4096 0} (length-replicate {A = ℕ} 4096 0) c.interval_sweep.ensures
