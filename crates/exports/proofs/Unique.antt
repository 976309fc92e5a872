-- The exported contracts determine the answer and every list that was lent: the answer is an equation, and for the lists a contract is
-- the promise of the call itself.
use mathlib.Core.Path.{◌≡◌, refl, ap, sym, ◌∙◌}
use mathlib.Core.List.{List}
use Prim.Native.Nat.{ℕ}
use lib.ListN.{length}
use Rattle.base.specs.Answers.{SweepAnswer}
use Rattle.rules.specs.Script.{Script}
use Rattle.rules.specs.Sweep.{Sweep}
use Rattle.rules.specs.Finder.{Finder}
use Rattle.rules.specs.Told.{told_sweep}
use Rattle.rules.specs.Refusals.{sweep_answer_of, script_call, minimizer_verdict, minimizer_call, minimizer_scored, interval_call, interval_scored, minimizer_finder_call, interval_finder_call}
use Rattle.rules.specs.Calls.{ScriptLent, script_room_of, ScriptPromise, SweepLent, sweep_room_of, MinimizerPromise, IntervalPromise, FinderLent, finder_room_of, MinimizerFinderPromise, IntervalFinderPromise}
use Rattle.rules.proofs.Minimizer.{minimizer_demand_3}
use Rattle.rules.proofs.Interval.{interval_scored_lem}
use Rattle.rules.proofs.Unique.{script_unique, minimizer_unique, interval_unique, minimizer_finder_unique, interval_finder_unique}
use Rattle.exports.specs.declared.scripts.ScriptOut.{ScriptOut}
use Rattle.exports.specs.declared.sweeps.SweepOut.{SweepOut}
use Rattle.exports.specs.declared.finders.FinderOut.{FinderOut}
use Rattle.exports.specs.Script.{Exported}
use Rattle.exports.specs.Sweep.{MinimizerExported, IntervalExported}
use Rattle.exports.specs.Finder.{MinimizerFinderExported, IntervalFinderExported}

script_promised : {s : Script} {r : ScriptOut} {before after : ScriptLent} → Exported s r before after → ScriptPromise s (script_call s (script_room_of before)) before after
script_promised e = record { answer = refl; left = e.left }

pub exported_unique : (s : Script) (before : ScriptLent) {r r₂ : ScriptOut} {after after₂ : ScriptLent}
    → Exported s r before after → Exported s r₂ before after₂ → (r ≡ r₂) × (after ≡ after₂)
exported_unique s before p q = (p.answer ∙ sym q.answer, (script_unique s _ _ before _ _ (script_promised p) (script_promised q)).1)

-- the two definitions agree where demand 3 speaks, so that the promise is that of the answer by definition
minimizer_promised : (s : Sweep) (r : SweepOut) (before after : SweepLent) → MinimizerExported s r before after → MinimizerPromise s (minimizer_call s (sweep_room_of before)) before after
unfolding minimizer_call minimizer_scored
minimizer_promised s r before after e = record {
  answer = refl;
  scored = λ premises. ap (λ (a : SweepAnswer). told_sweep (sweep_answer_of (minimizer_verdict s (sweep_room_of before)) a)) (minimizer_demand_3 s premises);
  left = e.left;
}

pub minimizer_exported_unique : (s : Sweep) (before : SweepLent) {r r₂ : SweepOut} {after after₂ : SweepLent}
    → MinimizerExported s r before after → MinimizerExported s r₂ before after₂ → (r ≡ r₂) × (after ≡ after₂)
minimizer_exported_unique s before p q = (p.answer ∙ sym q.answer, (minimizer_unique s _ _ before _ _ (minimizer_promised s _ before _ p) (minimizer_promised s _ before _ q)).1)

interval_promised : (s : Sweep) (r : SweepOut) (before after : SweepLent) (keys keys' : List ℕ) → IntervalExported s r before after keys keys' → IntervalPromise s (interval_call s (sweep_room_of before) (length keys)) before after keys keys'
unfolding interval_scored
interval_promised s r before after keys keys' e = record {
  answer = refl;
  scored = λ premises. ap told_sweep (interval_scored_lem s (sweep_room_of before) (length keys) premises);
  left = e.left;
  keys_left = e.keys_left;
}

pub interval_exported_unique : (s : Sweep) (before : SweepLent) (keys : List ℕ) {r r₂ : SweepOut} {after after₂ : SweepLent} {k l : List ℕ}
    → IntervalExported s r before after keys k → IntervalExported s r₂ before after₂ keys l → (r ≡ r₂) × (after ≡ after₂) × (k ≡ l)
interval_exported_unique s before keys p q =
    let u = interval_unique s _ _ before _ _ keys _ _ (interval_promised s _ before _ keys _ p) (interval_promised s _ before _ keys _ q) in
    (p.answer ∙ sym q.answer, u.1, u.2)

minimizer_finder_promised : {f : Finder} {r : FinderOut} {before after : FinderLent} → MinimizerFinderExported f r before after → MinimizerFinderPromise f (minimizer_finder_call f (finder_room_of before)) before after
minimizer_finder_promised e = record { answer = refl; left = e.left }

pub minimizer_finder_exported_unique : (f : Finder) (before : FinderLent) {r r₂ : FinderOut} {after after₂ : FinderLent}
    → MinimizerFinderExported f r before after → MinimizerFinderExported f r₂ before after₂ → (r ≡ r₂) × (after ≡ after₂)
minimizer_finder_exported_unique f before p q = (p.answer ∙ sym q.answer, (minimizer_finder_unique f _ _ before _ _ (minimizer_finder_promised p) (minimizer_finder_promised q)).1)

interval_finder_promised : {f : Finder} {r : FinderOut} {before after : FinderLent} {end_keys end_keys' : List ℕ} → IntervalFinderExported f r before after end_keys end_keys' → IntervalFinderPromise f (interval_finder_call f (finder_room_of before) (length end_keys)) before after end_keys end_keys'
interval_finder_promised e = record { answer = refl; left = e.left; end_keys_left = e.end_keys_left }

pub interval_finder_exported_unique : (f : Finder) (before : FinderLent) (end_keys : List ℕ) {r r₂ : FinderOut} {after after₂ : FinderLent} {k l : List ℕ}
    → IntervalFinderExported f r before after end_keys k → IntervalFinderExported f r₂ before after₂ end_keys l → (r ≡ r₂) × (after ≡ after₂) × (k ≡ l)
interval_finder_exported_unique f before end_keys p q =
    let u = interval_finder_unique f _ _ before _ _ end_keys _ _ (interval_finder_promised p) (interval_finder_promised q) in
    (p.answer ∙ sym q.answer, u.1, u.2)
