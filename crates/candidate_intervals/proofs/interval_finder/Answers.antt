-- `interval_finder` keeps the promise of the rules: refused, no list is touched; accepted, the needed part of the keys is lent to the work, which has all that
-- it asks since the verdict is fine.
use borrow.Author.Rules.{rules}
use mathlib.Core.Path.{refl, sym, ◌∙◌}
use native.Mathlib.Omega.{arith}
use lib.Seq.{length-take-le}
use Rattle.std.proofs.lemmas.Result.{err_from_is_err_and}
use Rattle.rules.specs.Finder.{Finder}
use Rattle.rules.specs.Calls.{FinderLent}
use Rattle.candidate_window.specs.Given.{lent_of}
use Rattle.candidate_intervals.specs.Given.{finder_of}
use Rattle.candidate_intervals.proofs.Checking.{verdict_is, passed}
use Rattle.candidate_intervals.proofs.Whole.{promise_refused, promise_done}
use Rattle.candidate_intervals.proofs.interval_finder.Goals as goal

pub returns-in_err-check : goal.returns-in_err-check
returns-in_err-check c =
    let a = c.args in
    let f : Finder = finder_of a.groups.now a.contigs.now a.starts.now a.ends.now a.threshold a.minimum in
    let b : FinderLent = lent_of a.opens.now a.seqs.now a.lows.now a.highs.now in
    let p = err_from_is_err_and c.from_residual.result c.from_residual.ensures.1 in
    rw (p.1, p.2) (promise_refused f b a.closes.now _ (sym (c.in_err-check.ensures ∙ verdict_is f b a.closes.now)))

pub slice_bounds-work-end : goal.slice_bounds-work-end
slice_bounds-work-end c =
    let a = c.args in
    let p = passed (finder_of a.groups.now a.contigs.now a.starts.now a.ends.now a.threshold a.minimum) (lent_of a.opens.now a.seqs.now a.lows.now a.highs.now) a.closes.now c.in_ok-check.ensures in
    p.fits.keys_fit

pub slice_bounds-work-end-2 : goal.slice_bounds-work-end-2
slice_bounds-work-end-2 c =
    let a = c.args in
    let p = passed (finder_of a.groups.now a.contigs.now a.starts.now a.ends.now a.threshold a.minimum) (lent_of a.opens.now a.seqs.now a.lows.now a.highs.now) a.closes.now c.in_ok-check.ensures in
    sym (length-take-le _ _ p.fits.keys_fit)

pub slice_bounds-work-end-3 : goal.slice_bounds-work-end-3
slice_bounds-work-end-3 c =
    let a = c.args in
    let p = passed (finder_of a.groups.now a.contigs.now a.starts.now a.ends.now a.threshold a.minimum) (lent_of a.opens.now a.seqs.now a.lows.now a.highs.now) a.closes.now c.in_ok-check.ensures in
    p.closes_fit

pub slice_bounds-work-end-4 : goal.slice_bounds-work-end-4
slice_bounds-work-end-4 c =
    let a = c.args in
    let p = passed (finder_of a.groups.now a.contigs.now a.starts.now a.ends.now a.threshold a.minimum) (lent_of a.opens.now a.seqs.now a.lows.now a.highs.now) a.closes.now c.in_ok-check.ensures in
    sym (length-take-le _ _ p.closes_fit)

pub invariant_of-hits : goal.invariant_of-hits
invariant_of-hits c =
    let a = c.args in
    let p = passed (finder_of a.groups.now a.contigs.now a.starts.now a.ends.now a.threshold a.minimum) (lent_of a.opens.now a.seqs.now a.lows.now a.highs.now) a.closes.now c.in_ok-check.ensures in
    record { few = p.accepted.few_hits; same_starts = p.accepted.same_starts; same_ends = p.same_ends; all = p.accepted.groups_sum; near = λ i. omega (arith, c.type_inv.ends i) }

pub work-requires : goal.work-requires
work-requires c =
    let a = c.args in
    let p = passed (finder_of a.groups.now a.contigs.now a.starts.now a.ends.now a.threshold a.minimum) (lent_of a.opens.now a.seqs.now a.lows.now a.highs.now) a.closes.now c.in_ok-check.ensures in
    record {
      some = p.accepted.minimum_is;
      opens = length-take-le _ _ p.fits.keys_fit;
      closes = length-take-le _ _ p.closes_fit;
      room = record { contigs = p.fits.contigs_fit; starts = p.fits.starts_fit; ends = p.fits.ends_fit };
    }

pub returns : goal.returns
returns c =
    let a = c.args in
    let f : Finder = finder_of a.groups.now a.contigs.now a.starts.now a.ends.now a.threshold a.minimum in
    let b : FinderLent = lent_of a.opens.now a.seqs.now a.lows.now a.highs.now in
    promise_done f b a.closes.now (sym (c.in_ok-check.ensures ∙ verdict_is f b a.closes.now)) c.work.ensures.worked refl refl refl _ _ _ _ _ c.work.ensures.opens c.work.ensures.closes
    (search rules) (search rules) (search rules)
