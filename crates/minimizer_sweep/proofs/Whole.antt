-- The whole call: a fine verdict tells all that the answer asks, and the answer with cleared lists, or a refusal with lists as they were, is the promise of the rules.
-- Assumes nothing.
use mathlib.Core.Path.{◌≡◌, refl, sym, ap, ◌∙◌, subst}
use mathlib.Core.List.{List, ◌++◌}
use Prim.Native.Nat.{ℕ, ◌+◌, ◌≤◌}
use native.Mathlib.Omega.{arith}
use lib.ListN.{length, drop}
use Rattle.base.specs.declared.Refusal.{Refusal}
use Rattle.std.specs.Prelude.{Err}
use Rattle.base.specs.Verdicts.{Verdict, Fine}
use Rattle.base.specs.Answers.{SweepAnswer}
use Rattle.base.proofs.Verdicts.{or_fine}
use Rattle.rules.specs.Accepted.{SweepAccepted, SweepFits}
use Rattle.rules.specs.Checks.{ceil64}
use Rattle.rules.specs.Sweep.{Sweep}
use Rattle.rules.specs.Place.{minimizer_answer}
use Rattle.rules.specs.Refusals.{need, minimizer_input_in, minimizer_verdict, sweep_answer_of, minimizer_call, minimizer_scored, work_left}
use Rattle.rules.specs.Told.{told_sweep}
use Rattle.rules.specs.Calls.{SweepLent, sweep_room_of, SweepLeft, MinimizerPromise}
use Rattle.rules.proofs.Accepted.{minimizer_accepted, sweep_fits}
use Rattle.rules.proofs.Minimizer.{minimizer_demand_3}
use Rattle.sweep.specs.Beginning.{Clear}
use Rattle.sweep.specs.declared.Lengths.{Lengths}
use Rattle.minimizer_work.specs.Work.{Ready}
use Rattle.minimizer_sweep.specs.Given.{lent_of, Covers}

module _ (s : Sweep) (before : SweepLent) where
  abbrev verdict : Verdict
  verdict = minimizer_verdict s (sweep_room_of before)

  abbrev m : ℕ
  m = length s.query + length s.hashes

  -- ---- what a fine verdict tells

  module _ (fine : verdict ≡ Fine) where
    accepted : SweepAccepted s.query s.hashes s.starts (length s.identities) (length s.uppers) s.settings.kmer
    unfolding minimizer_verdict minimizer_input_in
    accepted = (minimizer_accepted s.query s.hashes s.starts (length s.identities) (length s.uppers) s.settings.kmer s.window (or_fine _ _ fine).0).0

    pub fine_fits : SweepFits m (length before.hashes) (length before.counts) (length before.coords) (length before.words) (length before.summary)
    unfolding minimizer_verdict need sweep_room_of
    fine_fits = sweep_fits m (length before.hashes) (length before.counts) (length before.coords) (length before.words) (length before.summary) (or_fine _ _ fine).1

    pub fine_ready : Ready s.query s.hashes s.starts
    fine_ready = let a = accepted in record { few_hashes = a.few_hashes; few_items = a.few_items; parallel = a.same_starts; query_asc = a.query_ascends; starts_asc = a.starts_ascend }

    pub fine_table : Covers (length s.query) s.identities s.uppers
    fine_table = let a = accepted in record { identity = omega (arith, a.entries); upper = omega (arith, a.entries, a.same_table) }

  -- ---- the promise, by the verdict

  promised : (v : Verdict) → verdict ≡ v → (r : SweepAnswer) (after : SweepLent) → told_sweep r ≡ told_sweep (sweep_answer_of v (minimizer_answer s)) → SweepLeft v (need s) before after
      → MinimizerPromise s r before after
  unfolding minimizer_call minimizer_scored
  promised v e r after told left =
      let answer : told_sweep r ≡ told_sweep (sweep_answer_of verdict (minimizer_answer s)) = told ∙ ap (λ (w : Verdict). told_sweep (sweep_answer_of w (minimizer_answer s))) (sym e) in
      record {
        answer = answer;
        scored = λ h. answer ∙ ap (λ (a : SweepAnswer). told_sweep (sweep_answer_of verdict a)) (minimizer_demand_3 s h);
        left = subst (λ (w : Verdict). SweepLeft w (need s) before after) (sym e) left;
      }

  pub promise_refused : (x : Refusal) → verdict ≡ Err x → MinimizerPromise s (Err x) before before
  unfolding sweep_answer_of work_left
  promise_refused x e = promised (Err x) e (Err x) before refl (record { hashes = refl; counts = refl; coords = refl; words = refl; summary = refl })

  -- the needed part of each work list is clear, and the rest is untouched
  pub promise_done : verdict ≡ Fine → (r : SweepAnswer) → r ≡ minimizer_answer s → (hs cs is ws ss : List ℕ) → Clear m hs cs is ws ss
      → MinimizerPromise s r before
      (lent_of (hs ++ drop m before.hashes) (cs ++ drop m before.counts) (is ++ drop m before.coords) (ws ++ drop (ceil64 m) before.words) (ss ++ drop (ceil64 (ceil64 m)) before.summary))
  unfolding sweep_answer_of work_left need
  promise_done e r is_answer hs cs is ws ss c =
      promised Fine e r _ (ap told_sweep is_answer)
      (record {
        hashes = ap (λ (x : List ℕ). x ++ drop m before.hashes) c.hashes;
        counts = ap (λ (x : List ℕ). x ++ drop m before.counts) c.counts;
        coords = ap (λ (x : List ℕ). x ++ drop m before.coords) c.coords;
        words = ap (λ (x : List ℕ). x ++ drop (ceil64 m) before.words) c.words;
        summary = ap (λ (x : List ℕ). x ++ drop (ceil64 (ceil64 m)) before.summary) c.summary;
      })

-- all that is known of an input whose checks said fine, of the sizes that the call needs
pub record Passed (s : Sweep) (before : SweepLent) (n : Lengths) : Type 0 where
  pub ready : Ready s.query s.hashes s.starts
  pub table : Covers (length s.query) s.identities s.uppers
  pub keys : n.keys ≤ length before.hashes
  pub counts : n.counts ≤ length before.counts
  pub coords : n.coords ≤ length before.coords
  pub words : n.words ≤ length before.words
  pub summary : n.summary ≤ length before.summary

pub passed : (s : Sweep) (before : SweepLent) (n : Lengths) → n.keys ≡ m s before → n.counts ≡ m s before → n.coords ≡ m s before → n.words ≡ ceil64 (m s before) → n.summary ≡ ceil64 (ceil64 (m s before))
    → verdict s before ≡ Fine → Passed s before n
passed s before n k c i w t fine =
    let f = fine_fits s before fine in
    record {
      ready = fine_ready s before fine;
      table = fine_table s before fine;
      keys = omega (arith, k, f.hashes_fit);
      counts = omega (arith, c, f.counts_fit);
      coords = omega (arith, i, f.coords_fit);
      words = omega (arith, w, f.words_fit);
      summary = omega (arith, t, f.summary_fits);
    }
