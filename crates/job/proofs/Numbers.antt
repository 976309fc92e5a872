-- Four and eight bytes as a number, low byte first. Assumes nothing.
use Prim.Native.Nat.{ℕ, ◌+◌, ◌-◌, ◌≤◌}
use mathlib.Core.Path.{◌≡◌, ap, ◌∙◌}
use mathlib.Core.List.{List, [], ◌∷◌}
use native.Mathlib.Omega.{arith}
use lib.ListN.{length, take, drop, length-drop}
use lib.Seq.{length-take-le, take-take}
use Rattle.std.specs.Int.{w32, w64, from_le_bytes}
use Rattle.rules.specs.Job.{number, number_at}
use Rattle.job.proofs.UnitLists.{drop-take}

four_of : (l : List ℕ) → length l ≡ 4 → from_le_bytes w32 l ≡ number l
unfolding number
four_of [] h = absurd (omega arith)
four_of (a ∷ []) h = absurd (omega arith)
four_of (a ∷ b ∷ []) h = absurd (omega arith)
four_of (a ∷ b ∷ c ∷ []) h = absurd (omega arith)
four_of (a ∷ b ∷ c ∷ d ∷ []) h = omega arith
four_of (a ∷ b ∷ c ∷ d ∷ e ∷ l) h = absurd (omega arith)

eight_of : (l : List ℕ) → length l ≡ 8 → from_le_bytes w64 l ≡ number l
unfolding number
eight_of [] h = absurd (omega arith)
eight_of (a ∷ []) h = absurd (omega arith)
eight_of (a ∷ b ∷ []) h = absurd (omega arith)
eight_of (a ∷ b ∷ c ∷ []) h = absurd (omega arith)
eight_of (a ∷ b ∷ c ∷ d ∷ []) h = absurd (omega arith)
eight_of (a ∷ b ∷ c ∷ d ∷ e ∷ []) h = absurd (omega arith)
eight_of (a ∷ b ∷ c ∷ d ∷ e ∷ f ∷ []) h = absurd (omega arith)
eight_of (a ∷ b ∷ c ∷ d ∷ e ∷ f ∷ g ∷ []) h = absurd (omega arith)
eight_of (a ∷ b ∷ c ∷ d ∷ e ∷ f ∷ g ∷ i ∷ []) h = omega arith
eight_of (a ∷ b ∷ c ∷ d ∷ e ∷ f ∷ g ∷ i ∷ j ∷ l) h = absurd (omega arith)

-- those at an offset in a unit
module _ (bytes unit : List ℕ) (at k : ℕ) (is : bytes ≡ take (at + k - at) (drop at unit)) (within : at + k ≤ length unit) where
  copied : bytes ≡ take k (drop at unit)
  copied = let size : at + k - at ≡ k = omega arith in is ∙ ap (λ (n : ℕ). take n (drop at unit)) size

  size : length bytes ≡ k
  size = ap length copied ∙ length-take-le k (drop at unit) (omega (arith, length-drop at unit))

  pub four_at : k ≡ 4 → from_le_bytes w32 bytes ≡ number_at at k unit
  unfolding number_at
  four_at e = four_of bytes (size ∙ e) ∙ ap number copied

  pub eight_at : k ≡ 8 → from_le_bytes w64 bytes ≡ number_at at k unit
  unfolding number_at
  eight_at e = eight_of bytes (size ∙ e) ∙ ap number copied

-- a number of k bytes in the first n of some
pub number_in : (bytes : List ℕ) (o k n : ℕ) → o + k ≤ n → number_at o k (take n bytes) ≡ number_at o k bytes
unfolding number_at
number_in bytes o k n h = ap (λ (l : List ℕ). number (take k l)) (drop-take o n bytes (omega arith)) ∙ ap number (take-take k (n - o) (drop o bytes) (omega arith))
