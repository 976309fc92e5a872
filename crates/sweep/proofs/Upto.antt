-- The numbers below n, as a list: each stands at its own place, and there are no others. Assumes nothing.
use mathlib.Core.Path.{◌≡◌, refl, ap, ◌∙◌, subst}
use mathlib.Core.Logic.{⊎_elim}
use mathlib.Core.Bool.{true, false}
use Prim.Native.Nat.{ℕ, zero, suc, ◌+◌, ◌≤◌, ◌<◌}
use native.Mathlib.Omega.{arith}
use lib.ListN.{length, get_or}
use Rattle.base.specs.Lists.{StrictAsc}
use Rattle.base.proofs.Lists.{all_index, strict_steps}
use Rattle.rules.specs.Lists.{member, up_from}
use Rattle.rules.specs.Score.{number_of}
use Rattle.rules.proofs.Score.{cases, all_member, get_or-member, number_at}

pub up_length : (a n : ℕ) → length (up_from a n) ≡ n
unfolding up_from
up_length a zero = refl
up_length a (suc n) = ap suc (up_length (a + 1) n)

-- (d is what is read past the end)
pub up_at : (a n i d : ℕ) → i < n → get_or (up_from a n) i d ≡ a + i
unfolding up_from
up_at a zero i d l = absurd (omega arith)
up_at a (suc n) zero d l = omega arith
up_at a (suc n) (suc i) d l = up_at (a + 1) n i d (omega arith) ∙ omega arith

module _ (n : ℕ) where
  pub strict_up : StrictAsc (up_from 0 n)
  strict_up =
      strict_steps (up_from 0 n) λ i l.
      let h = up_length 0 n in
      omega (arith, up_at 0 n i 0 (omega arith), up_at 0 n (i + 1) 0 (omega arith))

  pub up_in : (h : ℕ) → h < n → member h (up_from 0 n) ≡ true
  up_in h l =
      let e : get_or (up_from 0 n) h 0 ≡ h = omega (arith, up_at 0 n h 0 l) in
      subst (λ (x : ℕ). member x (up_from 0 n) ≡ true) e (get_or-member (up_from 0 n) h (omega (arith, up_length 0 n)))

  pub in_up : (h : ℕ) → member h (up_from 0 n) ≡ true → h < n
  in_up h m =
      all_member (λ x. x < n) (up_from 0 n)
      (all_index (λ x. x < n) (up_from 0 n) λ i l.
      let k = up_length 0 n in
      omega (arith, up_at 0 n i 0 (omega arith))) h m

  pub up_out : (h : ℕ) → n ≤ h → member h (up_from 0 n) ≡ false
  up_out h l = ⊎_elim (λ (m : member h (up_from 0 n) ≡ true). absurd (omega (arith, in_up h m))) (λ m. m) (cases (member h (up_from 0 n)))

  -- a number is its own coordinate number
  pub up_number : (h : ℕ) → h < n → number_of (up_from 0 n) h ≡ h
  up_number h l =
      let e : get_or (up_from 0 n) h 0 ≡ h = omega (arith, up_at 0 n h 0 l) in
      subst (λ (x : ℕ). number_of (up_from 0 n) x ≡ h) e (number_at (up_from 0 n) strict_up h (omega (arith, up_length 0 n)))
