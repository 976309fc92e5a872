-- A set of numbers is a function that is 1 at each number it holds and 0 elsewhere.
use Rattle.std.specs.Prelude.{◌≡◌, ◌≢◌, ℕ, zero, suc, ◌+◌}

-- how many numbers below n are in f
unfoldable pub count : (ℕ → ℕ) → ℕ → ℕ
count f zero = 0
count f (suc n) = count f n + f n

-- f and g agree everywhere
abbrev pub Same : (ℕ → ℕ) → (ℕ → ℕ) → Type 0
Same f g = (j : ℕ) → g j ≡ f j

-- g is f and one number more, i
pub record Bump (f g : ℕ → ℕ) (i : ℕ) : Type 0 where
  pub here : g i ≡ f i + 1
  pub else : (j : ℕ) → j ≢ i → g j ≡ f j
