-- `interval_sweep` keeps the promise of the rules: refused, no list is touched; accepted, the needed part of each work list is lent to the work.
use mathlib.Core.Path.{◌≡◌, sym}
use lib.ListN.{length}
use Rattle.std.specs.Prelude.{Ok}
use Rattle.std.proofs.lemmas.Result.{err_from_is_err_and}
use Rattle.base.specs.Verdicts.{Fine}
use Rattle.rules.specs.Checks.{interval_input}
use Rattle.rules.specs.Sweep.{Sweep}
use Rattle.rules.specs.Refusals.{need, interval_input_in, interval_verdict}
use Rattle.rules.specs.Calls.{SweepLent, sweep_room_of}
use Rattle.interval_sweep.specs.Given.{sweep_of, lent_of}
use Rattle.interval_sweep.proofs.Whole.{promise_refused, promise_done}
use Rattle.interval_sweep.proofs.interval_sweep.Goals as goal

pub returns-in_err-check : goal.returns-in_err-check
unfolding interval_input interval_input_in interval_verdict need sweep_room_of
returns-in_err-check c =
    let s : Sweep = sweep_of c.args.query.now c.args.hashes.now c.args.starts.now c.args.ends.now c.args.settings c.args.range c.args.identities.now c.args.uppers.now c.args.minimum in
    let lent : SweepLent = lent_of c.args.keys.now c.args.counts.now c.args.coords.now c.args.words.now c.args.summary.now in
    let p = err_from_is_err_and c.from_residual.result c.from_residual.ensures.1 in
    rw (p.1, p.2) (promise_refused s lent c.args.events.now _ (sym c.in_err-check.ensures.verdict))

pub returns : goal.returns
unfolding interval_input interval_input_in interval_verdict need sweep_room_of
returns c =
    let s : Sweep = sweep_of c.args.query.now c.args.hashes.now c.args.starts.now c.args.ends.now c.args.settings c.args.range c.args.identities.now c.args.uppers.now c.args.minimum in
    let lent : SweepLent = lent_of c.args.keys.now c.args.counts.now c.args.coords.now c.args.words.now c.args.summary.now in
    let fine : interval_verdict s (sweep_room_of lent) (length c.args.events.now) ≡ Fine = sym c.in_ok-check.ensures.verdict in
    let n = c.needed-needed.ensures in
    rw (n.keys, n.counts, n.coords, n.words, n.summary) (promise_done s lent c.args.events.now fine _ _ _ _ _ _ (Ok c.clear_and_answer.result) c.clear_and_answer.ensures)
