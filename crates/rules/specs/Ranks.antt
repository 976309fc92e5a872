-- The working form of pivot and shared count: a set of coordinate numbers is a function that is 1 at its members and 0 elsewhere.
-- A reader of the contracts needs none of it; proofs/Slide.antt ties it to `pivot_of`, `shared_of` and `score`.
use Rattle.std.specs.Prelude.{◌≡◌, Bool, false, List, ℕ, ◌+◌, min, max, length, get_or}
use Rattle.base.specs.Pick.{pick}
use Rattle.base.specs.Counting.{count}
use Rattle.rules.specs.Moves.{Slide}

-- in the query or active
abbrev pub either : (ℕ → ℕ) → (ℕ → ℕ) → ℕ → ℕ
either q a i = max (q i) (a i)

-- in the query and active
abbrev pub both : (ℕ → ℕ) → (ℕ → ℕ) → ℕ → ℕ
both q a i = min (q i) (a i)

-- p is the k-th smallest number of the union u, and s counts the numbers of h through p
pub record PivotAt (u h : ℕ → ℕ) (k p s : ℕ) : Type 0 where
  pub on : u p ≡ 1
  pub rank : count u p + 1 ≡ k
  pub shared : count h (p + 1) ≡ s

-- 1 where the flag is true (0 past the end)
unfoldable pub mark : List Bool → ℕ → ℕ
mark ms i = pick (get_or ms i false) 1 0

-- 1 where the count is above 0 (0 past the end)
unfoldable pub has : List ℕ → ℕ → ℕ
has counts i = min (get_or counts i 0) 1

-- how many flags are true: the query's size
unfoldable pub size : List Bool → ℕ
size ms = count (mark ms) (length ms)

-- the state of the slide holds the union's k-th smallest as its pivot, and the shared count through it
pub record Slid (ms : List Bool) (s : Slide) : Type 0 where
  pub lens : length s.counts ≡ length ms
  pub at : PivotAt (either (mark ms) (has s.counts)) (both (mark ms) (has s.counts)) (size ms) s.pivot s.shared
