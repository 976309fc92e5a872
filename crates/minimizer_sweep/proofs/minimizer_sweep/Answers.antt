-- `minimizer_sweep` keeps the promise of the rules: refused, no list is touched; accepted, the needed part of each work list is lent on, to where all that is asked
-- holds since the verdict is fine.
use mathlib.Core.Path.{sym, ◌∙◌}
use native.Mathlib.Omega.{arith}
use lib.Seq.{length-take-le}
use Rattle.std.proofs.lemmas.Result.{err_from_is_err_and}
use Rattle.rules.specs.Sweep.{Sweep}
use Rattle.rules.specs.Refusals.{need, minimizer_input_in, minimizer_verdict}
use Rattle.rules.specs.Calls.{SweepLent, sweep_room_of}
use Rattle.minimizer_work.specs.Given.{sweep_of}
use Rattle.minimizer_sweep.specs.Given.{lent_of}
use Rattle.minimizer_sweep.proofs.Whole.{Passed, passed, promise_refused, promise_done}
use Rattle.minimizer_sweep.proofs.minimizer_sweep.Goals as goal

pub returns-in_err-check : goal.returns-in_err-check
unfolding minimizer_input_in minimizer_verdict need sweep_room_of
returns-in_err-check c =
    let asked : Sweep = sweep_of c.args.settings c.args.window c.args.range c.args.query.now c.args.hashes.now c.args.positions.now c.args.identities.now c.args.uppers.now c.args.minimum in
    let lent : SweepLent = lent_of c.args.keys.now c.args.counts.now c.args.coords.now c.args.words.now c.args.summary.now in
    let p = err_from_is_err_and c.from_residual.result c.from_residual.ensures.1 in
    rw (p.1, p.2) (promise_refused asked lent _ (sym c.in_err-check.ensures))

pub invariant_of-clear_and_answer : goal.invariant_of-clear_and_answer
unfolding minimizer_input_in minimizer_verdict need sweep_room_of
invariant_of-clear_and_answer c =
    let asked : Sweep = sweep_of c.args.settings c.args.window c.args.range c.args.query.now c.args.hashes.now c.args.positions.now c.args.identities.now c.args.uppers.now c.args.minimum in
    let lent : SweepLent = lent_of c.args.keys.now c.args.counts.now c.args.coords.now c.args.words.now c.args.summary.now in
    let e = c.needed-needed.ensures in
    let p : Passed asked lent c.needed-needed.result = passed asked lent c.needed-needed.result e.keys e.counts e.coords e.words e.summary (sym c.in_ok-check.ensures) in
    record { parallel = p.ready.parallel; asc = p.ready.starts_asc; near = λ i. omega (arith, c.type_inv.positions i) }

pub slice_bounds-clear_and_answer-end : goal.slice_bounds-clear_and_answer-end
unfolding minimizer_input_in minimizer_verdict need sweep_room_of
slice_bounds-clear_and_answer-end c =
    let asked : Sweep = sweep_of c.args.settings c.args.window c.args.range c.args.query.now c.args.hashes.now c.args.positions.now c.args.identities.now c.args.uppers.now c.args.minimum in
    let lent : SweepLent = lent_of c.args.keys.now c.args.counts.now c.args.coords.now c.args.words.now c.args.summary.now in
    let e = c.needed-needed.ensures in
    let p : Passed asked lent c.needed-needed.result = passed asked lent c.needed-needed.result e.keys e.counts e.coords e.words e.summary (sym c.in_ok-check.ensures) in
    p.keys

pub slice_bounds-clear_and_answer-end-2 : goal.slice_bounds-clear_and_answer-end-2
unfolding minimizer_input_in minimizer_verdict need sweep_room_of
slice_bounds-clear_and_answer-end-2 c =
    let asked : Sweep = sweep_of c.args.settings c.args.window c.args.range c.args.query.now c.args.hashes.now c.args.positions.now c.args.identities.now c.args.uppers.now c.args.minimum in
    let lent : SweepLent = lent_of c.args.keys.now c.args.counts.now c.args.coords.now c.args.words.now c.args.summary.now in
    let e = c.needed-needed.ensures in
    let p : Passed asked lent c.needed-needed.result = passed asked lent c.needed-needed.result e.keys e.counts e.coords e.words e.summary (sym c.in_ok-check.ensures) in
    sym (length-take-le _ _ p.keys)

pub slice_bounds-clear_and_answer-end-3 : goal.slice_bounds-clear_and_answer-end-3
unfolding minimizer_input_in minimizer_verdict need sweep_room_of
slice_bounds-clear_and_answer-end-3 c =
    let asked : Sweep = sweep_of c.args.settings c.args.window c.args.range c.args.query.now c.args.hashes.now c.args.positions.now c.args.identities.now c.args.uppers.now c.args.minimum in
    let lent : SweepLent = lent_of c.args.keys.now c.args.counts.now c.args.coords.now c.args.words.now c.args.summary.now in
    let e = c.needed-needed.ensures in
    let p : Passed asked lent c.needed-needed.result = passed asked lent c.needed-needed.result e.keys e.counts e.coords e.words e.summary (sym c.in_ok-check.ensures) in
    p.counts

pub slice_bounds-clear_and_answer-end-4 : goal.slice_bounds-clear_and_answer-end-4
unfolding minimizer_input_in minimizer_verdict need sweep_room_of
slice_bounds-clear_and_answer-end-4 c =
    let asked : Sweep = sweep_of c.args.settings c.args.window c.args.range c.args.query.now c.args.hashes.now c.args.positions.now c.args.identities.now c.args.uppers.now c.args.minimum in
    let lent : SweepLent = lent_of c.args.keys.now c.args.counts.now c.args.coords.now c.args.words.now c.args.summary.now in
    let e = c.needed-needed.ensures in
    let p : Passed asked lent c.needed-needed.result = passed asked lent c.needed-needed.result e.keys e.counts e.coords e.words e.summary (sym c.in_ok-check.ensures) in
    sym (length-take-le _ _ p.counts)

pub slice_bounds-clear_and_answer-end-5 : goal.slice_bounds-clear_and_answer-end-5
unfolding minimizer_input_in minimizer_verdict need sweep_room_of
slice_bounds-clear_and_answer-end-5 c =
    let asked : Sweep = sweep_of c.args.settings c.args.window c.args.range c.args.query.now c.args.hashes.now c.args.positions.now c.args.identities.now c.args.uppers.now c.args.minimum in
    let lent : SweepLent = lent_of c.args.keys.now c.args.counts.now c.args.coords.now c.args.words.now c.args.summary.now in
    let e = c.needed-needed.ensures in
    let p : Passed asked lent c.needed-needed.result = passed asked lent c.needed-needed.result e.keys e.counts e.coords e.words e.summary (sym c.in_ok-check.ensures) in
    p.coords

pub slice_bounds-clear_and_answer-end-6 : goal.slice_bounds-clear_and_answer-end-6
unfolding minimizer_input_in minimizer_verdict need sweep_room_of
slice_bounds-clear_and_answer-end-6 c =
    let asked : Sweep = sweep_of c.args.settings c.args.window c.args.range c.args.query.now c.args.hashes.now c.args.positions.now c.args.identities.now c.args.uppers.now c.args.minimum in
    let lent : SweepLent = lent_of c.args.keys.now c.args.counts.now c.args.coords.now c.args.words.now c.args.summary.now in
    let e = c.needed-needed.ensures in
    let p : Passed asked lent c.needed-needed.result = passed asked lent c.needed-needed.result e.keys e.counts e.coords e.words e.summary (sym c.in_ok-check.ensures) in
    sym (length-take-le _ _ p.coords)

pub slice_bounds-clear_and_answer-end-7 : goal.slice_bounds-clear_and_answer-end-7
unfolding minimizer_input_in minimizer_verdict need sweep_room_of
slice_bounds-clear_and_answer-end-7 c =
    let asked : Sweep = sweep_of c.args.settings c.args.window c.args.range c.args.query.now c.args.hashes.now c.args.positions.now c.args.identities.now c.args.uppers.now c.args.minimum in
    let lent : SweepLent = lent_of c.args.keys.now c.args.counts.now c.args.coords.now c.args.words.now c.args.summary.now in
    let e = c.needed-needed.ensures in
    let p : Passed asked lent c.needed-needed.result = passed asked lent c.needed-needed.result e.keys e.counts e.coords e.words e.summary (sym c.in_ok-check.ensures) in
    p.words

pub slice_bounds-clear_and_answer-end-8 : goal.slice_bounds-clear_and_answer-end-8
unfolding minimizer_input_in minimizer_verdict need sweep_room_of
slice_bounds-clear_and_answer-end-8 c =
    let asked : Sweep = sweep_of c.args.settings c.args.window c.args.range c.args.query.now c.args.hashes.now c.args.positions.now c.args.identities.now c.args.uppers.now c.args.minimum in
    let lent : SweepLent = lent_of c.args.keys.now c.args.counts.now c.args.coords.now c.args.words.now c.args.summary.now in
    let e = c.needed-needed.ensures in
    let p : Passed asked lent c.needed-needed.result = passed asked lent c.needed-needed.result e.keys e.counts e.coords e.words e.summary (sym c.in_ok-check.ensures) in
    sym (length-take-le _ _ p.words)

pub slice_bounds-clear_and_answer-end-9 : goal.slice_bounds-clear_and_answer-end-9
unfolding minimizer_input_in minimizer_verdict need sweep_room_of
slice_bounds-clear_and_answer-end-9 c =
    let asked : Sweep = sweep_of c.args.settings c.args.window c.args.range c.args.query.now c.args.hashes.now c.args.positions.now c.args.identities.now c.args.uppers.now c.args.minimum in
    let lent : SweepLent = lent_of c.args.keys.now c.args.counts.now c.args.coords.now c.args.words.now c.args.summary.now in
    let e = c.needed-needed.ensures in
    let p : Passed asked lent c.needed-needed.result = passed asked lent c.needed-needed.result e.keys e.counts e.coords e.words e.summary (sym c.in_ok-check.ensures) in
    p.summary

pub slice_bounds-clear_and_answer-end-10 : goal.slice_bounds-clear_and_answer-end-10
unfolding minimizer_input_in minimizer_verdict need sweep_room_of
slice_bounds-clear_and_answer-end-10 c =
    let asked : Sweep = sweep_of c.args.settings c.args.window c.args.range c.args.query.now c.args.hashes.now c.args.positions.now c.args.identities.now c.args.uppers.now c.args.minimum in
    let lent : SweepLent = lent_of c.args.keys.now c.args.counts.now c.args.coords.now c.args.words.now c.args.summary.now in
    let e = c.needed-needed.ensures in
    let p : Passed asked lent c.needed-needed.result = passed asked lent c.needed-needed.result e.keys e.counts e.coords e.words e.summary (sym c.in_ok-check.ensures) in
    sym (length-take-le _ _ p.summary)

pub clear_and_answer-requires : goal.clear_and_answer-requires
unfolding minimizer_input_in minimizer_verdict need sweep_room_of
clear_and_answer-requires c =
    let asked : Sweep = sweep_of c.args.settings c.args.window c.args.range c.args.query.now c.args.hashes.now c.args.positions.now c.args.identities.now c.args.uppers.now c.args.minimum in
    let lent : SweepLent = lent_of c.args.keys.now c.args.counts.now c.args.coords.now c.args.words.now c.args.summary.now in
    let e = c.needed-needed.ensures in
    let p : Passed asked lent c.needed-needed.result = passed asked lent c.needed-needed.result e.keys e.counts e.coords e.words e.summary (sym c.in_ok-check.ensures) in
    record {
      ready = p.ready;
      table = p.table;
      exact = record {
        hashes = length-take-le _ _ p.keys ∙ e.keys;
        counts = length-take-le _ _ p.counts ∙ e.counts;
        coords = length-take-le _ _ p.coords ∙ e.coords;
        words = length-take-le _ _ p.words ∙ e.words;
        summary = length-take-le _ _ p.summary ∙ e.summary;
      };
    }

pub returns : goal.returns
unfolding minimizer_input_in minimizer_verdict need sweep_room_of
returns c =
    let asked : Sweep = sweep_of c.args.settings c.args.window c.args.range c.args.query.now c.args.hashes.now c.args.positions.now c.args.identities.now c.args.uppers.now c.args.minimum in
    let lent : SweepLent = lent_of c.args.keys.now c.args.counts.now c.args.coords.now c.args.words.now c.args.summary.now in
    let e = c.needed-needed.ensures in
    rw (e.keys, e.counts, e.coords, e.words, e.summary) (promise_done asked lent (sym c.in_ok-check.ensures) _ c.clear_and_answer.ensures.answer _ _ _ _ _ c.clear_and_answer.ensures.clear)
