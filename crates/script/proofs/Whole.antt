-- With the work lists cleared and the rules' answers in the outputs, the promise of the call is met. Assumes nothing.
use mathlib.Core.Path.{◌≡◌, refl, sym, ap, ◌∙◌, subst}
use mathlib.Core.List.{List, ◌++◌, map}
use Prim.Native.Nat.{ℕ}
use lib.ListN.{length, drop}
use Rattle.base.specs.declared.Refusal.{Refusal}
use Rattle.std.specs.Prelude.{Ok, Err}
use Rattle.base.specs.Verdicts.{Verdict, Fine}
use Rattle.base.specs.Answers.{ScriptAnswer}
use Rattle.base.specs.Buffers.{over}
use Rattle.rules.specs.Checks.{ceil64}
use Rattle.rules.specs.Script.{Script, Look, looks, final}
use Rattle.rules.specs.Refusals.{script_verdict, script_answer_of, script_call, work_left, output_left}
use Rattle.rules.specs.Told.{told_script}
use Rattle.rules.specs.Calls.{script_room_of, ScriptLent, ScriptLeft, ScriptPromise}
use Rattle.base.specs.declared.Slide.{Slide}
use Rattle.script.specs.Given.{lent_of}
use Rattle.script_work.specs.declared.looks.Looks.{Looks}
use Rattle.script_work.specs.Work.{Worked}

module _ (s : Script) (before : ScriptLent) where
  -- by the verdict: the answer, and what is left
  promised : (v : Verdict) → script_verdict s (script_room_of before) ≡ v → (r : ScriptAnswer) (after : ScriptLent) → told_script r ≡ told_script (script_answer_of v (final s))
      → ScriptLeft v (length s.coords) (looks s) before after → ScriptPromise s r before after
  unfolding script_call
  promised v e r after told left = record {
    answer = told ∙ ap (λ (w : Verdict). told_script (script_answer_of w (final s))) (sym e);
    left = subst (λ (w : Verdict). ScriptLeft w (length s.coords) (looks s) before after) (sym e) left;
  }

  pub promise_refused : (x : Refusal) → script_verdict s (script_room_of before) ≡ Err x → ScriptPromise s (Err x) before before
  unfolding script_answer_of work_left output_left
  promise_refused x e =
      promised (Err x) e (Err x) before refl (record { counts = refl; words = refl; summary = refl; pivots = refl; shareds = refl })

  -- the needed part of each work list was cleared, and the rest is untouched
  pub promise_done : script_verdict s (script_room_of before) ≡ Fine → {c w u : ℕ} → c ≡ length s.coords → w ≡ ceil64 (length s.coords) → u ≡ ceil64 (ceil64 (length s.coords)) → (cs ws ss ps ts : List ℕ) {l l' : Looks} {r : Slide}
      → before.pivots ≡ l.pivots.now → before.shareds ≡ l.shareds.now → Worked s l cs ws ss l' r → ps ≡ l'.pivots.now → ts ≡ l'.shareds.now
      → ScriptPromise s (Ok r) before
      (lent_of (cs ++ drop c before.counts) (ws ++ drop w before.words) (ss ++ drop u before.summary) ps ts)
  unfolding script_answer_of work_left output_left final
  promise_done fine e f g cs ws ss ps ts {l} {l'} {r} p q done p' q' =
      promised Fine fine (Ok r) _
      (ap (λ (l : Look). told_script (Ok (record { pivot = record { 0 = l.pivot }; shared = l.shared }))) done.answered.last)
      (record {
        counts = rw e (ap (λ (x : List ℕ). x ++ drop (length s.coords) before.counts) done.clear.counts);
        words = rw f (ap (λ (x : List ℕ). x ++ drop (ceil64 (length s.coords)) before.words) done.clear.words);
        summary = rw g (ap (λ (x : List ℕ). x ++ drop (ceil64 (ceil64 (length s.coords))) before.summary) done.clear.summary);
        pivots = p' ∙ done.answered.pivots ∙ ap (over (map (λ (l : Look). l.pivot) (looks s))) (sym p);
        shareds = q' ∙ done.answered.shareds ∙ ap (over (map (λ (l : Look). l.shared) (looks s))) (sym q);
      })
