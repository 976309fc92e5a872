-- Where a list first breaks its order: the later of two neighbours that stand wrong.
use Rattle.std.specs.Prelude.{Bool, true, false, List, [], ◌∷◌, ◌≡◌, ℕ, ◌+◌, ◌<◌, ◌≤◌, length, get_or, ltb, leb}
use Rattle.base.specs.Pick.{pick}

-- the head stands at i, after p: the index of the first element that is not `ok` after the one before it, or the index past the end
unfoldable pub order_from : (ℕ → ℕ → Bool) → ℕ → ℕ → List ℕ → ℕ
order_from ok i p [] = i
order_from ok i p (x ∷ xs) = pick (ok p x) (order_from ok (i + 1) x xs) i

-- of a whole list: its length where nothing is wrong. `ltb` asks that it ascends strictly, `leb` that it never descends
unfoldable pub order_of : (ℕ → ℕ → Bool) → List ℕ → ℕ
order_of ok [] = 0
order_of ok (x ∷ xs) = order_from ok 1 x xs

-- the order that is asked for: strictly up, or never down
abbrev pub in_order : Bool → ℕ → ℕ → Bool
in_order true = ltb
in_order false = leb

-- what such an index r is, by neighbours: the first element is never wrong, each before r is ok, and the one at r is not, unless r is the length. The law
-- `order_unique` says that `order_of` is the one such r
pub record FirstWrong (ok : ℕ → ℕ → Bool) (xs : List ℕ) (r : ℕ) : Type 0 where
  pub within : r ≤ length xs
  pub not_first : 0 < length xs → 0 < r
  pub before : (k : ℕ) → k + 1 < r → ok (get_or xs k 0) (get_or xs (k + 1) 0) ≡ true
  pub wrong : (k : ℕ) → r ≡ k + 1 → r < length xs → ok (get_or xs k 0) (get_or xs (k + 1) 0) ≡ false
