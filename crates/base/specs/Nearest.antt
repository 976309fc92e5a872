-- The nearest number of a set before and after a place; a set is a function that is 1 at each number it holds and 0 elsewhere.
use Rattle.std.specs.Prelude.{◌≡◌, ℕ, ◌≤◌, ◌<◌}

-- j is the greatest number below n that is in f
pub record LastBelow (f : ℕ → ℕ) (n j : ℕ) : Type 0 where
  pub below : j < n
  pub on : f j ≡ 1
  pub off : (k : ℕ) → j < k → k < n → f k ≡ 0

-- no number below n is in f
abbrev pub NoneBelow : (ℕ → ℕ) → ℕ → Type 0
NoneBelow f n = (k : ℕ) → k < n → f k ≡ 0

-- j is the least number from n on that is in f
pub record FirstFrom (f : ℕ → ℕ) (n j : ℕ) : Type 0 where
  pub from : n ≤ j
  pub on : f j ≡ 1
  pub off : (k : ℕ) → n ≤ k → k < j → f k ≡ 0

-- no number from n on is in f
abbrev pub NoneFrom : (ℕ → ℕ) → ℕ → Type 0
NoneFrom f n = (k : ℕ) → n ≤ k → f k ≡ 0
