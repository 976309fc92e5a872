-- `script` keeps the promise of the rules: refused, no list is touched; accepted, the needed part of each work list is lent to the work, which has all
-- that it asks since the verdict is fine.
use mathlib.Core.Path.{refl, sym, ◌∙◌}
use native.Mathlib.Omega.{arith}
use Rattle.std.proofs.Common.{rules, length-take-le}
use Rattle.std.proofs.lemmas.Result.{err_from_is_err_and}
use Rattle.rules.specs.Calls.{script_room_of}
use Rattle.script.proofs.Checking.{fine_sized, fine_fits, fine_sound, steps_in}
use Rattle.script.proofs.Whole.{promise_refused, promise_done}
use Rattle.script.proofs.script.Goals as goal

pub returns-in_err-check : goal.returns-in_err-check
unfolding script_room_of
returns-in_err-check c =
    let p = err_from_is_err_and c.from_residual.result c.from_residual.ensures.1 in rw (p.1, p.2) (promise_refused _ _ _ (sym c.in_err-check.ensures.verdict))

pub slice_bounds-clear_and_work-end : goal.slice_bounds-clear_and_work-end
slice_bounds-clear_and_work-end c = omega (arith, (fine_fits _ _ (sym c.in_ok-check.ensures.verdict)).counts_fit)

pub slice_bounds-clear_and_work-end-2 : goal.slice_bounds-clear_and_work-end-2
slice_bounds-clear_and_work-end-2 c = sym (length-take-le _ _ (omega (arith, (fine_fits _ _ (sym c.in_ok-check.ensures.verdict)).counts_fit)))

pub slice_bounds-clear_and_work-end-3 : goal.slice_bounds-clear_and_work-end-3
slice_bounds-clear_and_work-end-3 c = omega (arith, (fine_fits _ _ (sym c.in_ok-check.ensures.verdict)).words_fit)

pub slice_bounds-clear_and_work-end-4 : goal.slice_bounds-clear_and_work-end-4
slice_bounds-clear_and_work-end-4 c = sym (length-take-le _ _ (omega (arith, (fine_fits _ _ (sym c.in_ok-check.ensures.verdict)).words_fit)))

pub slice_bounds-clear_and_work-end-5 : goal.slice_bounds-clear_and_work-end-5
slice_bounds-clear_and_work-end-5 c = omega (arith, (fine_fits _ _ (sym c.in_ok-check.ensures.verdict)).summary_fits)

pub slice_bounds-clear_and_work-end-6 : goal.slice_bounds-clear_and_work-end-6
slice_bounds-clear_and_work-end-6 c = sym (length-take-le _ _ (omega (arith, (fine_fits _ _ (sym c.in_ok-check.ensures.verdict)).summary_fits)))

pub invariant_of-query : goal.invariant_of-query
invariant_of-query c =
    let fine = sym c.in_ok-check.ensures.verdict in
    record { sound = fine_sound _ _ fine; room = omega (arith, (fine_sized _ _ fine).few_hashes, c.check.auto.places); placed = c.in_ok-check.ensures.placed }

pub invariant_of-steps : goal.invariant_of-steps
invariant_of-steps c = let z = fine_sized _ _ (sym c.in_ok-check.ensures.verdict) in record { few = z.few_steps; parallel = z.parallel }

pub clear_and_work-requires : goal.clear_and_work-requires
clear_and_work-requires c =
    let fine = sym c.in_ok-check.ensures.verdict in
    let fits = fine_fits _ _ fine in
    let n = c.needed-needed.ensures in
    record {
      within = steps_in _ _ fine;
      outputs = record { pivots = fits.pivots_fit; shareds = fits.shareds_fit };
      exact = record {
        counts = length-take-le _ _ (omega (arith, fits.counts_fit)) ∙ n.counts;
        words = length-take-le _ _ (omega (arith, fits.words_fit)) ∙ n.words;
        summary = length-take-le _ _ (omega (arith, fits.summary_fits)) ∙ n.summary;
      };
    }

pub returns : goal.returns
unfolding script_room_of
returns c =
    let n = c.needed-needed.ensures in
    let same = c.clear_and_work.ensures.same in
    promise_done _ _ (sym c.in_ok-check.ensures.verdict) n.counts n.words n.summary _ _ _ _ _ refl refl c.clear_and_work.ensures.worked (search rules) (search rules)
