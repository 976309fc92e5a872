-- What the calls on lists of keys answer. The sort's own definition, `sort_of`, is base's.
use Rattle.std.specs.Prelude.{◌≡◌, List, [], ◌∷◌, ℕ, ◌+◌, ◌^◌, ◌≤◌, ◌<◌, eqb, ltb, length}
use Rattle.base.specs.Pick.{pick}
use Rattle.base.specs.Buffers.{over}

-- 1 where y is below x, else 0
unfoldable pub under : ℕ → ℕ → ℕ
under x y = pick (ltb y x) 1 0

-- how many elements are below x
unfoldable pub below : ℕ → List ℕ → ℕ
below x [] = 0
below x (y ∷ ys) = under x y + below x ys

-- the elements without those that equal the one before them; `last` stands before the first
unfoldable pub after : ℕ → List ℕ → List ℕ
after last [] = []
after last (x ∷ xs) = pick (eqb x last) (after last xs) (x ∷ after x xs)

-- the elements without those that equal the one before them
unfoldable pub dedup_of : List ℕ → List ℕ
dedup_of [] = []
dedup_of (x ∷ xs) = x ∷ after x xs

-- a buffer that held `entry` holds the answers over its front and the rest as it was, and r says how many answers there are
pub record Fronted (answers entry exit : List ℕ) (r : ℕ) : Type 0 where
  pub many : r ≡ length answers
  pub is : exit ≡ over answers entry

-- s halvings bring n, or the power of two below it, to one
pub record Within (n s : ℕ) : Type 0 where
  pub few : s < 64
  pub low : 2 ^ s ≤ n
  pub high : n < 2 ^ s + 2 ^ s
