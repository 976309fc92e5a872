-- `minimizer_finder` keeps the promise of the rules: refused, no list is touched; accepted, the needed part of the keys is lent to the work, which has all that
-- it asks since the verdict is fine.
use borrow.Author.Rules.{rules}
use mathlib.Core.Path.{refl, sym, ◌∙◌}
use lib.Seq.{length-take-le}
use Rattle.std.proofs.lemmas.Result.{err_from_is_err_and}
use Rattle.rules.specs.Finder.{Finder}
use Rattle.rules.specs.Calls.{FinderLent}
use Rattle.candidate_window.specs.Given.{finder_of, lent_of}
use Rattle.candidate_window.proofs.Checking.{verdict_is, passed}
use Rattle.candidate_window.proofs.Whole.{promise_refused, promise_done}
use Rattle.candidate_window.proofs.minimizer_finder.Goals as goal

pub returns-in_err-check : goal.returns-in_err-check
returns-in_err-check c =
    let a = c.args in
    let f : Finder = finder_of a.groups.now a.contigs.now a.positions.now a.threshold a.minimum a.length in
    let b : FinderLent = lent_of a.keys.now a.seqs.now a.lows.now a.highs.now in
    let p = err_from_is_err_and c.from_residual.result c.from_residual.ensures.1 in
    rw (p.1, p.2) (promise_refused f b _ (sym (c.in_err-check.ensures ∙ verdict_is f b)))

pub slice_bounds-work-end : goal.slice_bounds-work-end
slice_bounds-work-end c =
    let a = c.args in
    let p = passed (finder_of a.groups.now a.contigs.now a.positions.now a.threshold a.minimum a.length) (lent_of a.keys.now a.seqs.now a.lows.now a.highs.now) c.in_ok-check.ensures in
    p.fits.keys_fit

pub slice_bounds-work-end-2 : goal.slice_bounds-work-end-2
slice_bounds-work-end-2 c =
    let a = c.args in
    let p = passed (finder_of a.groups.now a.contigs.now a.positions.now a.threshold a.minimum a.length) (lent_of a.keys.now a.seqs.now a.lows.now a.highs.now) c.in_ok-check.ensures in
    sym (length-take-le _ _ p.fits.keys_fit)

pub invariant_of-hits : goal.invariant_of-hits
invariant_of-hits c =
    let a = c.args in
    let p = passed (finder_of a.groups.now a.contigs.now a.positions.now a.threshold a.minimum a.length) (lent_of a.keys.now a.seqs.now a.lows.now a.highs.now) c.in_ok-check.ensures in
    record { few = p.accepted.few_hits; parallel = p.accepted.same_starts; all = p.accepted.groups_sum }

pub work-requires-clause-some : goal.work-requires-clause-some
work-requires-clause-some c =
    let a = c.args in
    let p = passed (finder_of a.groups.now a.contigs.now a.positions.now a.threshold a.minimum a.length) (lent_of a.keys.now a.seqs.now a.lows.now a.highs.now) c.in_ok-check.ensures in
    p.accepted.minimum_is

pub work-requires-clause-exact : goal.work-requires-clause-exact
work-requires-clause-exact c =
    let a = c.args in
    let p = passed (finder_of a.groups.now a.contigs.now a.positions.now a.threshold a.minimum a.length) (lent_of a.keys.now a.seqs.now a.lows.now a.highs.now) c.in_ok-check.ensures in
    length-take-le _ _ p.fits.keys_fit

pub work-requires-clause-room : goal.work-requires-clause-room
work-requires-clause-room c =
    let a = c.args in
    let p = passed (finder_of a.groups.now a.contigs.now a.positions.now a.threshold a.minimum a.length) (lent_of a.keys.now a.seqs.now a.lows.now a.highs.now) c.in_ok-check.ensures in
    record { contigs = p.fits.contigs_fit; starts = p.fits.starts_fit; ends = p.fits.ends_fit }

pub returns : goal.returns
returns c =
    let a = c.args in
    let f : Finder = finder_of a.groups.now a.contigs.now a.positions.now a.threshold a.minimum a.length in
    let b : FinderLent = lent_of a.keys.now a.seqs.now a.lows.now a.highs.now in
    promise_done f b (sym (c.in_ok-check.ensures ∙ verdict_is f b)) c.work.ensures.worked refl refl refl _ _ _ _ c.work.ensures.clear (search rules) (search rules) (search rules)
