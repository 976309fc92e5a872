-- The whole call: from the work's answer and zero lists to the promise of the rules. Assumes nothing.
use mathlib.Core.Path.{◌≡◌, refl, sym, ap, subst, ◌∙◌}
use mathlib.Core.List.{List, ◌++◌}
use Prim.Native.Nat.{ℕ, ◌+◌, ◌*◌}
use lib.ListN.{length, drop}
use Rattle.base.specs.declared.Refusal.{Refusal}
use Rattle.std.specs.Prelude.{Err}
use Rattle.base.specs.Answers.{SweepAnswer}
use Rattle.base.specs.Verdicts.{Verdict, Fine}
use Rattle.rules.specs.Checks.{ceil64}
use Rattle.rules.specs.Sweep.{Sweep}
use Rattle.rules.specs.Place.{interval_answer}
use Rattle.rules.specs.Refusals.{need, interval_verdict, sweep_answer_of, interval_call, interval_scored, work_left}
use Rattle.rules.specs.Told.{told_sweep}
use Rattle.rules.specs.Calls.{SweepLent, sweep_room_of, SweepLeft, IntervalPromise}
use Rattle.rules.proofs.Interval.{interval_scored_lem}
use Rattle.interval_sweep.specs.Given.{lent_of}
use Rattle.interval_sweep.specs.Answer.{Answered}

-- ---- the promise

module _ (s : Sweep) (before : SweepLent) (keys : List ℕ) where
  abbrev verdict : Verdict
  verdict = interval_verdict s (sweep_room_of before) (length keys)

  promised : (v : Verdict) → verdict ≡ v → (r : SweepAnswer) (after : SweepLent) (keys' : List ℕ) → r ≡ sweep_answer_of v (interval_answer s) → SweepLeft v (need s) before after → keys' ≡ work_left v (2 * length s.hashes) keys → IntervalPromise s r before after keys keys'
  unfolding interval_call interval_scored
  promised v e r after keys' done left events =
      let call : r ≡ interval_call s (sweep_room_of before) (length keys) = done ∙ ap (λ (w : Verdict). sweep_answer_of w (interval_answer s)) (sym e) in
      record {
        answer = ap told_sweep call;
        scored = λ p. ap told_sweep (call ∙ interval_scored_lem s (sweep_room_of before) (length keys) p);
        left = subst (λ (w : Verdict). SweepLeft w (need s) before after) (sym e) left;
        keys_left = events ∙ ap (λ (w : Verdict). work_left w (2 * length s.hashes) keys) (sym e);
      }

  pub promise_refused : (x : Refusal) → verdict ≡ Err x → IntervalPromise s (Err x) before before keys keys
  unfolding sweep_answer_of work_left
  promise_refused x e =
      promised (Err x) e (Err x) before keys refl (record { hashes = refl; counts = refl; coords = refl; words = refl; summary = refl }) refl

  abbrev m : ℕ
  m = length s.query + length s.hashes

  pub promise_done : verdict ≡ Fine → (hs cs ds ws ss es : List ℕ) (r : SweepAnswer) → Answered s hs cs ds ws ss es r
      → IntervalPromise s r before
      (lent_of (hs ++ drop m before.hashes) (cs ++ drop m before.counts) (ds ++ drop m before.coords) (ws ++ drop (ceil64 m) before.words) (ss ++ drop (ceil64 (ceil64 m)) before.summary)) keys (es ++ drop (2 * length s.hashes) keys)
  unfolding sweep_answer_of work_left need
  promise_done e hs cs ds ws ss es r w =
      promised Fine e r _ _ w.answer_is
      (record {
        hashes = ap (λ (x : List ℕ). x ++ drop m before.hashes) w.clear.hashes;
        counts = ap (λ (x : List ℕ). x ++ drop m before.counts) w.clear.counts;
        coords = ap (λ (x : List ℕ). x ++ drop m before.coords) w.clear.coords;
        words = ap (λ (x : List ℕ). x ++ drop (ceil64 m) before.words) w.clear.words;
        summary = ap (λ (x : List ℕ). x ++ drop (ceil64 (ceil64 m)) before.summary) w.clear.summary;
      }) (ap (λ (x : List ℕ). x ++ drop (2 * length s.hashes) keys) w.out_zero)
