-- A number no less than each element of a list, found in one walk: what a turn makes of it is no less than it was, and no less than the element.
-- Both hold of the larger of two numbers and of their bits together. Assumes nothing.
use mathlib.Core.Logic.{⊎_elim}
use mathlib.Core.Path.{◌≡◌}
use mathlib.Core.List.{List}
use Prim.Native.Nat.{ℕ, ◌+◌, ◌≤◌, ◌<◌}
use native.Mathlib.Nat.{not-suc-le-zero}
use native.Mathlib.Omega.{arith}
use lib.Bits.{bit_or, or_add_and, and_le_l, and_le_r}
use lib.ListN.{length, get_or}
use Rattle.base.specs.Lists.{All}
use Rattle.base.proofs.Lists.{all_index}
use Rattle.std.proofs.lemmas.Bool.{cases_eq}

pub or_left : (a b : ℕ) → a ≤ bit_or a b
or_left a b = omega (arith, or_add_and a b, and_le_r a b)

pub or_right : (a b : ℕ) → b ≤ bit_or a b
or_right a b = omega (arith, or_add_and a b, and_le_l a b)

-- after n elements, from a first number
pub record Covering (xs : List ℕ) (first most n : ℕ) : Type 0 where
  pub upto : n ≤ length xs
  pub start : first ≤ most
  pub each : (i : ℕ) → i < n → get_or xs i 0 ≤ most

pub covering_start : (xs : List ℕ) (first : ℕ) → Covering xs first first 0
covering_start xs first = record { upto = omega arith; start = omega arith; each = λ i l. absurd (not-suc-le-zero l) }

module _ {xs : List ℕ} {first most n : ℕ} (c : Covering xs first most n) where
  pub covering_step : {more : ℕ} → n < length xs → most ≤ more → get_or xs n 0 ≤ more → Covering xs first more (n + 1)
  covering_step l a b = record {
    upto = omega arith;
    start = omega (arith, c.start);
    each = λ i m. ⊎_elim (λ (e : i ≡ n). rw e b) (λ (e : i ≡ n → ⊥). omega (arith, c.each i (omega arith))) (cases_eq i n);
  }

  pub covering_end : length xs ≤ n → (first ≤ most) × All (λ x. x ≤ most) xs
  covering_end l = (c.start, all_index (λ x. x ≤ most) xs (λ i m. c.each i (omega arith)))
