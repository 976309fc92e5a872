-- The minimizer sweep's promise, over arrays that are never too short, is the rules' answer. Assumes nothing.
use Rattle.job_answer.specs.Mapped.{points_of}
use Rattle.job_answer.proofs.Roomy.{minimizer_done_lem, arrays, roomy}
use Rattle.job_answer.proofs.sweep_minimizers.Goals as goal

pub returns : goal.returns
returns c = let j = c.args.job.now in minimizer_done_lem (points_of j) j.few_hashes j.few_items arrays roomy c.minimizer_sweep.ensures
