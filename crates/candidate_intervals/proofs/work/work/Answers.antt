-- `work` lists what the intervals that it gathered cover, which is what the rules say, and leaves the keys clear.
use mathlib.Core.Path.{◌∙◌}
use native.Mathlib.Omega.{arith}
use Rattle.candidate_intervals.proofs.Whole.{work_few, work_intervals, work_done}
use Rattle.candidate_intervals.proofs.work.work.Goals as goal

pub invariant_of-cover : goal.invariant_of-cover
invariant_of-cover c = record { intervals = work_intervals c.gather-kept.ensures (c.gather-kept.auto.opens ∙ c.requires.opens); some = c.requires.some }

pub overflow_cast-result-2 : goal.overflow_cast-result-2
overflow_cast-result-2 c = omega (arith, work_few c.gather-kept.ensures (c.gather-kept.auto.opens ∙ c.requires.opens), c.args.hits.few)

pub returns-clause-worked : goal.returns-clause-worked
returns-clause-worked c = work_done c.gather-kept.ensures (c.gather-kept.auto.opens ∙ c.requires.opens) c.args.minimum c.list-count.result c.list-count.ensures.listed
