-- The nearest number is one at most, and there is none where the set holds none: of two candidates the nearer would have been passed over. It is the same
-- in a set that agrees, and from a place that is farther off by numbers that are not in the set. Assumes nothing.
use mathlib.Core.Path.{◌≡◌, ◌∙◌}
use mathlib.Core.Logic.{⊎_elim}
use Prim.Native.Nat.{ℕ, ◌≤◌, ◌<◌}
use native.Mathlib.Omega.{arith}
use Rattle.base.specs.Counting.{Same}
use Rattle.base.specs.Nearest.{LastBelow, NoneBelow, FirstFrom, NoneFrom}
use Rattle.std.proofs.lemmas.Bool.{cases_lt}

module _ {f : ℕ → ℕ} {n : ℕ} where
  pub last_le : {i j : ℕ} → LastBelow f n i → LastBelow f n j → i ≤ j
  last_le {i} {j} a b = ⊎_elim (λ (l : j < i). absurd (omega (arith, a.on, b.off i l a.below))) (λ (l : i ≤ j). l) (cases_lt j i)

  pub last_unique : {i j : ℕ} → LastBelow f n i → LastBelow f n j → i ≡ j
  last_unique a b = omega (arith, last_le a b, last_le b a)

  pub last_not_none : {j : ℕ} → LastBelow f n j → NoneBelow f n → ⊥
  last_not_none {j} a none = omega (arith, a.on, none j a.below)

  pub first_le : {i j : ℕ} → FirstFrom f n i → FirstFrom f n j → i ≤ j
  first_le {i} {j} a b = ⊎_elim (λ (l : j < i). absurd (omega (arith, b.on, a.off j b.from l))) (λ (l : i ≤ j). l) (cases_lt j i)

  pub first_unique : {i j : ℕ} → FirstFrom f n i → FirstFrom f n j → i ≡ j
  first_unique a b = omega (arith, first_le a b, first_le b a)

  pub first_not_none : {j : ℕ} → FirstFrom f n j → NoneFrom f n → ⊥
  first_not_none {j} a none = omega (arith, a.on, none j a.from)

-- in a set that agrees

pub last_same : (f g : ℕ → ℕ) (n j : ℕ) → Same f g → LastBelow f n j → LastBelow g n j
last_same f g n j e a = record { below = a.below; on = e j ∙ a.on; off = λ k l m. e k ∙ a.off k l m }

pub first_same : (f g : ℕ → ℕ) (n j : ℕ) → Same f g → FirstFrom f n j → FirstFrom g n j
first_same f g n j e a = record { from = a.from; on = e j ∙ a.on; off = λ k l m. e k ∙ a.off k l m }

-- from farther off

module _ (f : ℕ → ℕ) (n m j : ℕ) (le : n ≤ m) (none : (k : ℕ) → n ≤ k → k < m → f k ≡ 0) where
  pub last_more : LastBelow f n j → LastBelow f m j
  last_more a = record {
    below = omega (arith, a.below);
    on = a.on;
    off = λ k l h. ⊎_elim (λ (b : k < n). a.off k l b) (λ (b : n ≤ k). none k b h) (cases_lt k n);
  }

  pub first_more : FirstFrom f m j → FirstFrom f n j
  first_more a = record {
    from = omega (arith, a.from);
    on = a.on;
    off = λ k l h. ⊎_elim (λ (b : k < m). none k l b) (λ (b : m ≤ k). a.off k b h) (cases_lt k m);
  }
