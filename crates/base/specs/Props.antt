-- That a list ascends has one proof at most, so that a struct can keep it as a fact.
use Rattle.std.specs.Prelude.{List, [], ◌∷◌, ℕ, ◌≤◌, ◌<◌}
use Rattle.std.specs.Coded.{×_prop, Unit-prop, le_prop}
use Rattle.base.specs.Lists.{All, Asc, StrictAsc}

All-prop : (P : ℕ → Type 0) → ((y : ℕ) → IsProp (P y)) → (xs : List ℕ) → IsProp (All P xs)
All-prop P each [] = Unit-prop
All-prop P each (y ∷ ys) = ×_prop (each y) (All-prop P each ys)

pub Asc-prop : (xs : List ℕ) → IsProp (Asc xs)
Asc-prop [] = Unit-prop
Asc-prop (x ∷ xs) = ×_prop (All-prop (λ y. x ≤ y) (λ y. le_prop) xs) (Asc-prop xs)

pub StrictAsc-prop : (xs : List ℕ) → IsProp (StrictAsc xs)
StrictAsc-prop [] = Unit-prop
StrictAsc-prop (x ∷ xs) = ×_prop (All-prop (λ y. x < y) (λ y. le_prop) xs) (StrictAsc-prop xs)
