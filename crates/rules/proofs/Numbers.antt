-- No refusal of a call has the number 0, so that a caller may read 0 as done: each check of a chain refuses with a number above 0, and a chain refuses only
-- with a number of one of its checks. Assumes nothing.
use Prim.Native.Nat.{ℕ, ◌<◌}
use mathlib.Core.Path.{◌≡◌, sym, ap}
use mathlib.Core.Bool.{Bool, true, false}
use native.Mathlib.Omega.{arith}
use borrow.Author.Rules.{rules}
use Rattle.std.specs.Prelude.{Ok, Err}
use Rattle.base.specs.Pick.{pick}
use Rattle.base.specs.Verdicts.{Verdict, Fine, or_else, number_of}
use Rattle.base.specs.declared.Refusal.{Refusal}
use Rattle.base.proofs.Verdicts.{no_fine}
use Rattle.rules.specs.Script.{Script}
use Rattle.rules.specs.Sweep.{Sweep}
use Rattle.rules.specs.Finder.{Finder}
use Rattle.rules.specs.Checks.{minimizer_input, interval_input, script_input, minimizer_finder_input, interval_finder_input}
use Rattle.rules.specs.Refusals.{SweepRoom, ScriptRoom, FinderRoom, minimizer_input_in, minimizer_verdict, interval_input_in, interval_verdict, script_verdict, minimizer_finder_verdict, interval_finder_verdict}

-- where it refuses, its number is above 0
record Numbered (v : Verdict) : Type 0 where
  pub above : (x : Refusal) → v ≡ Err x → 0 < number_of x.reason

fine : Numbered Fine
fine = record { above = λ x e. absurd (no_fine x (sym e)) }

refused : (r : Refusal) → 0 < number_of r.reason → Numbered (Err r)
refused r h = record { above = λ x e. let same : r ≡ x = cc in omega (arith, h, ap (λ (y : Refusal). number_of y.reason) same) }

chosen : (t : Bool) (v w : Verdict) → Numbered v → Numbered w → Numbered (pick t v w)
unfolding pick
chosen true v w a b = a
chosen false v w a b = b

first : (v w : Verdict) → Numbered v → Numbered w → Numbered (or_else v w)
unfolding or_else
first (Ok u) w a b = b
first (Err r) w a b = a

ruleset chain = (rules, fine, refused, chosen, first)

-- the five calls
pub minimizer_numbered : (s : Sweep) (r : SweepRoom) (x : Refusal) → minimizer_verdict s r ≡ Err x → 0 < number_of x.reason
unfolding minimizer_verdict minimizer_input_in minimizer_input
minimizer_numbered s r = let n : Numbered (minimizer_verdict s r) = search chain depth 40 in n.above

pub interval_numbered : (s : Sweep) (r : SweepRoom) (keys : ℕ) (x : Refusal) → interval_verdict s r keys ≡ Err x → 0 < number_of x.reason
unfolding interval_verdict interval_input_in interval_input
interval_numbered s r keys = let n : Numbered (interval_verdict s r keys) = search chain depth 40 in n.above

pub script_numbered : (s : Script) (r : ScriptRoom) (x : Refusal) → script_verdict s r ≡ Err x → 0 < number_of x.reason
unfolding script_verdict script_input
script_numbered s r = let n : Numbered (script_verdict s r) = search chain depth 40 in n.above

pub minimizer_finder_numbered : (f : Finder) (r : FinderRoom) (x : Refusal) → minimizer_finder_verdict f r ≡ Err x → 0 < number_of x.reason
unfolding minimizer_finder_verdict minimizer_finder_input
minimizer_finder_numbered f r = let n : Numbered (minimizer_finder_verdict f r) = search chain depth 40 in n.above

pub interval_finder_numbered : (f : Finder) (r : FinderRoom) (end_keys : ℕ) (x : Refusal) → interval_finder_verdict f r end_keys ≡ Err x → 0 < number_of x.reason
unfolding interval_finder_verdict interval_finder_input
interval_finder_numbered f r end_keys = let n : Numbered (interval_finder_verdict f r end_keys) = search chain depth 40 in n.above
