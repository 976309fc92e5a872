-- What the searches answer; a set is a function that is 1 at each number it holds and 0 elsewhere.
use Rattle.std.specs.Prelude.{ℕ, Option, Some, None}
use Rattle.base.specs.Nearest.{LastBelow, NoneBelow, FirstFrom, NoneFrom}

-- the greatest number below n that is in f, and None exactly when there is none
abbrev pub Prev : (ℕ → ℕ) → ℕ → Option ℕ → Type 0
Prev f n (Some c) = LastBelow f n c
Prev f n None = NoneBelow f n

-- the least number from n on that is in f, and None exactly when there is none
abbrev pub Next : (ℕ → ℕ) → ℕ → Option ℕ → Type 0
Next f n (Some c) = FirstFrom f n c
Next f n None = NoneFrom f n
