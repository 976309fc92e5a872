-- Words on lists of numbers.
use Rattle.std.specs.Prelude.{cond, List, [], ◌∷◌, ℕ, ◌+◌, ◌≤◌, ◌<◌, eqb}

-- P holds of each element
abbrev pub All : (ℕ → Type 0) → List ℕ → Type 0
All P [] = Unit {0}
All P (x ∷ xs) = P x × All P xs

-- R holds between each element and every later one
abbrev pub Ordered : (ℕ → ℕ → Type 0) → List ℕ → Type 0
Ordered R [] = Unit {0}
Ordered R (x ∷ xs) = All (λ y. R x y) xs × Ordered R xs

-- each element is at most every later one
abbrev pub Asc : List ℕ → Type 0
Asc xs = Ordered (λ x y. x ≤ y) xs

-- each element is below every later one
abbrev pub StrictAsc : List ℕ → Type 0
StrictAsc xs = Ordered (λ x y. x < y) xs

-- 1 where x is v, else 0
unfoldable pub hit : ℕ → ℕ → ℕ
hit v x = cond (eqb v x) 1 0

-- how often v stands in xs
unfoldable pub times : ℕ → List ℕ → ℕ
times v [] = 0
times v (x ∷ xs) = hit v x + times v xs
