-- The coordinates of a call are all query and local reference hashes, ascending, each once: the rules' `union`. A hash's number is how many
-- coordinates are below it.
use Rattle.std.specs.Prelude.{◌≡◌, List, [], ◌∷◌, ◌++◌, map, ℕ, ◌+◌, ◌≤◌, length, set, replicate}
use Rattle.base.specs.Pick.{pick}
use Rattle.base.specs.Buffers.{over}
use Rattle.rules.specs.Lists.{member}
use Rattle.rules.specs.Score.{union, number_of}

-- the count word of each coordinate before any item is active: 1 where it is in the query, else 0
unfoldable pub flags : List ℕ → List ℕ → List ℕ
flags query coords = map (λ c. pick (member c query) 1 0) coords

-- the coordinate number of each hash, the query's before the items'
unfoldable pub numbers : List ℕ → List ℕ → List ℕ
numbers query hashes = map (number_of (union query hashes)) (query ++ hashes)

-- what is lent: a list of keys and one of coordinate numbers, each as long as query and items together
pub record Lent (query hashes keys coords : List ℕ) : Type 0 where
  pub few : length query + length hashes ≤ 65536
  pub key_room : length keys ≡ length query + length hashes
  pub coord_room : length coords ≡ length query + length hashes

-- the numbers stand in `coords`, and r says how many coordinates there are
pub record Numbered (query hashes coords : List ℕ) (r : ℕ) : Type 0 where
  pub many : r ≡ length (union query hashes)
  pub are : coords ≡ numbers query hashes

-- what the call asks: the lists as above, and count words as many, all zero
pub record Asked (query hashes keys counts coords : List ℕ) : Type 0 where
  pub lent : Lent query hashes keys coords
  pub blank : counts ≡ replicate (length query + length hashes) 0

-- what it answers: the coordinates are numbered, and the count words of the first r say which are in the query; the others stay zero
pub record Answered (query hashes entry counts coords : List ℕ) (r : ℕ) : Type 0 where
  pub numbered : Numbered query hashes coords r
  pub marks : counts ≡ over (flags query (union query hashes)) entry

-- 1 put at each of these places
unfoldable pub marked : List ℕ → List ℕ → List ℕ
marked counts [] = counts
marked counts (i ∷ is) = marked (set counts i 1) is
