-- How many keys are below x is the coordinate number of x: both count the same elements, one by one. Assumes nothing.
use mathlib.Core.Path.{◌≡◌, refl, ap}
use mathlib.Core.List.{List, [], ◌∷◌}
use Prim.Native.Nat.{ℕ, ◌+◌}
use lib.Dec.{ltb}
use Rattle.base.specs.Pick.{pick}
use Rattle.rules.specs.Lists.{count}
use Rattle.rules.specs.Score.{number_of}
use Rattle.keys.specs.Lists.{under, below}

pub below_number : (x : ℕ) (xs : List ℕ) → below x xs ≡ number_of xs x
unfolding below under number_of count
below_number x [] = refl
below_number x (y ∷ ys) = ap (λ (n : ℕ). pick (ltb y x) 1 0 + n) (below_number x ys)
