-- `range_of_run` gives the range of a run that is short enough and in one contig.
use mathlib.Core.Path.{sym, ◌∙◌}
use native.Mathlib.Omega.{arith}
use Rattle.rules.proofs.FinderRuns.{run_far, run_other}
use Rattle.candidate_ranges.proofs.Running.{range_is}
use Rattle.candidate_ranges.proofs.runs.range_of_run.Goals.{then-fragment-z-via-then-fragment-z, then-fragment-z-via-else-fragment-z+then-contig_of}
use Rattle.candidate_ranges.proofs.runs.range_of_run.Goals as goal

pub returns-then-fragment-z : goal.returns-then-fragment-z
returns-then-fragment-z c =
    elim c.then-fragment-z.branch [
      | then-fragment-z-via-then-fragment-z w ↦ run_far _ _ _ c.requires w.if-fragment-z.true
      | then-fragment-z-via-else-fragment-z+then-contig_of w ↦
          run_other _ _ _ (λ e. w.if-contig_of.true (w.contig_of.ensures ∙ e ∙ sym w.contig_of-else-fragment-z.ensures))
    ]

pub returns : goal.returns
returns c = range_is c.requires (sym c.contig_of.ensures ∙ c.if-contig_of.false ∙ c.contig_of-else-fragment-z.ensures) c.if-fragment-z.false _ _ _ _ c.contig_of-2.ensures c.at_of.ensures (omega arith) c.at_of-2.ensures
