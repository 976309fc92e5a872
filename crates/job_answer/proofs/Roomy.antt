-- The program's work lists are never too short, so that no sweep refuses them: 512 query hashes and 2,048 items are 2,560 hashes, 40 words, 1 summary word and 4,096 event keys.
-- Assumes nothing.
use Prim.Native.Nat.{ℕ, ◌+◌, ◌*◌, ◌≤◌}
use mathlib.Core.Path.{◌≡◌, refl, ap, ◌∙◌}
use mathlib.Core.List.{List}
use native.Mathlib.Omega.{arith}
use borrow.Author.Tests.{le-ltb}
use lib.Dec.{ltb}
use lib.ListN.{length, replicate, length-replicate}
use Rattle.base.specs.Pick.{pick}
use Rattle.std.specs.Prelude.{Ok, Err}
use Rattle.base.specs.Verdicts.{Verdict, Fine, or_else, refuse}
use Rattle.base.specs.declared.Reason.TheVariants.{ShortBuffer}
use Rattle.base.specs.Answers.{SweepAnswer}
use Rattle.rules.specs.Limits.{job_query_limit, job_item_limit}
use Rattle.rules.specs.Checks.{ceil64, sweep_needs, keys_need}
use Rattle.rules.specs.Sweep.{Sweep}
use Rattle.rules.specs.Place.{minimizer_answer, interval_answer}
use Rattle.rules.specs.Refusals.{need, minimizer_input_in, minimizer_verdict, interval_input_in, interval_verdict, sweep_answer_of, minimizer_call, interval_call}
use Rattle.rules.specs.Calls.{SweepLent, sweep_room_of, MinimizerPromise, IntervalPromise}
use Rattle.rules.proofs.Told.{told_sweep_lem}
use Rattle.job_answer.specs.Mapped.{minimizer_done, interval_done}

-- a test that a list is too short, of one that is not
long : (a b : ℕ) (w : Verdict) → b ≤ a → w ≡ Fine → pick (ltb a b) (refuse ShortBuffer 0) w ≡ Fine
unfolding pick
long a b w h e = rw (le-ltb a b h) e

or_none : (v w : Verdict) → w ≡ Fine → or_else v w ≡ v
unfolding or_else
or_none (Ok u) w e = e
or_none (Err r) w e = refl

-- what the work lists have
pub record Roomy (b : SweepLent) : Type 0 where
  pub hashes_are : length b.hashes ≡ 2560
  pub counts_are : length b.counts ≡ 2560
  pub coords_are : length b.coords ≡ 2560
  pub words_are : length b.words ≡ 40
  pub summary_are : length b.summary ≡ 1

module _ (s : Sweep) (few_hashes : length s.query ≤ job_query_limit) (few_items : length s.hashes ≤ job_item_limit) (b : SweepLent) (has : Roomy b) where
  needs_met : sweep_needs (length s.query + length s.hashes) (length b.hashes) (length b.counts) (length b.coords) (length b.words) (length b.summary) ≡ Fine
  needs_met =
      let m = length s.query + length s.hashes in
      let h : m ≤ length b.hashes = omega (arith, has.hashes_are) in
      let c : m ≤ length b.counts = omega (arith, has.counts_are) in
      let i : m ≤ length b.coords = omega (arith, has.coords_are) in
      let w : ceil64 m ≤ length b.words = omega (arith, has.words_are) in
      let y : ceil64 (ceil64 m) ≤ length b.summary = omega (arith, has.summary_are) in
      long _ _ _ h (long _ _ _ c (long _ _ _ i (long _ _ _ w (long _ _ _ y refl))))

  pub minimizer_done_lem : {r : SweepAnswer} {after : SweepLent} → MinimizerPromise s r b after → r ≡ minimizer_done s
  unfolding minimizer_done minimizer_call minimizer_verdict sweep_room_of need
  minimizer_done_lem {r} p =
      told_sweep_lem r _ p.answer ∙ ap (λ (v : Verdict). sweep_answer_of v (minimizer_answer s)) (or_none (minimizer_input_in s) _ needs_met)

  pub interval_done_lem : {r : SweepAnswer} {after : SweepLent} {keys keys' : List ℕ} → length keys ≡ 4096 → IntervalPromise s r b after keys keys' → r ≡ interval_done s
  unfolding interval_done interval_call interval_verdict sweep_room_of need
  interval_done_lem {r} {keys = keys} e p =
      let twice : 2 * length s.hashes ≤ length keys = omega arith in
      let met : keys_need (length s.hashes) (length keys) ≡ Fine = long _ _ _ twice refl in
      told_sweep_lem r _ p.answer
      ∙ ap (λ (v : Verdict). sweep_answer_of v (interval_answer s)) (or_none (interval_input_in s) _ (or_none _ _ met ∙ needs_met))

-- the arrays before the sweep
abbrev pub arrays : SweepLent
arrays = record { hashes = replicate 2560 0; counts = replicate 2560 0; coords = replicate 2560 0; words = replicate 40 0; summary = replicate 1 0 }

pub roomy : Roomy arrays
roomy = record {
  hashes_are = length-replicate {A = ℕ} 2560 0;
  counts_are = length-replicate {A = ℕ} 2560 0;
  coords_are = length-replicate {A = ℕ} 2560 0;
  words_are = length-replicate {A = ℕ} 40 0;
  summary_are = length-replicate {A = ℕ} 1 0;
}
