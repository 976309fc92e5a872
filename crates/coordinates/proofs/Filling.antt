-- A loop that writes the answer at i in turn i over the whole of a buffer that is as long as the answers. Assumes nothing.
use mathlib.Core.Path.{◌≡◌, sym, ap, ◌∙◌}
use mathlib.Core.List.{List, ◌∷◌, ◌++◌}
use Prim.Native.Nat.{ℕ, suc, ◌+◌, ◌≤◌, ◌<◌}
use native.Mathlib.Omega.{arith}
use lib.ListN.{length, get_or, take, drop, set, length-set}
use lib.Seq.{drop-cons}
use Rattle.base.proofs.Buffers.{over_more}

pub record Filling (answers entry now : List ℕ) (i : ℕ) : Type 0 where
  pub long : length answers ≡ length entry
  pub upto : i ≤ length entry
  pub kept : length now ≡ length entry
  pub is : now ≡ take i answers ++ drop i entry

module _ {answers entry now : List ℕ} {i : ℕ} (f : Filling answers entry now i) where
  pub filling_step : (y : ℕ) → i < length entry → y ≡ get_or answers i 0 → Filling answers entry (set now i y) (i + 1)
  filling_step y l e = record {
    long = f.long;
    upto = omega arith;
    kept = length-set now i y ∙ f.kept;
    is =
        ap (λ (t : List ℕ). set t i y) f.is
        ∙ over_more i answers entry y (drop (suc i) answers) l (drop-cons answers i 0 (omega (arith, f.long)) ∙ ap (λ (z : ℕ). z ∷ drop (suc i) answers) (sym e));
  }
