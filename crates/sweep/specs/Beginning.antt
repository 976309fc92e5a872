-- The work lists at their needed sizes, and the mapper before its first item.
use Rattle.std.specs.Prelude.{◌≡◌, List, [], map, ℕ, ◌+◌, ◌≤◌, ◌<◌, length, drop, replicate}
use Rattle.base.specs.Lists.{StrictAsc}
use Rattle.rules.specs.Checks.{ceil64}
use Rattle.rules.specs.Score.{union, number_of}
use Rattle.rules.specs.Moves.{marks}
use Rattle.slide_mapper.specs.State.{flags_of}
use Rattle.sweep.specs.Active.{asked, Active}
use Rattle.sweep.specs.declared.Begun.{Begun}

-- hashes, counts, item coordinates, bit words and summary have the sizes that m hashes of query and items need
pub record Exact (m : ℕ) (hs cs is ws ss : List ℕ) : Type 0 where
  pub hashes : length hs ≡ m
  pub counts : length cs ≡ m
  pub coords : length is ≡ m
  pub words : length ws ≡ ceil64 m
  pub summary : length ss ≡ ceil64 (ceil64 m)

-- and are clear
pub record Clear (m : ℕ) (hs cs is ws ss : List ℕ) : Type 0 where
  pub hashes : hs ≡ replicate m 0
  pub counts : cs ≡ replicate m 0
  pub coords : is ≡ replicate m 0
  pub words : ws ≡ replicate (ceil64 m) 0
  pub summary : ss ≡ replicate (ceil64 (ceil64 m)) 0

-- a query that ascends and is not empty, and few enough hashes in all
pub record Given (query hashes : List ℕ) : Type 0 where
  pub few : length query + length hashes ≤ 65536
  pub some : 0 < length query
  pub query_asc : StrictAsc query

-- the coordinates are counted, the items numbered, the query is marked, and no item is active
pub record Begins (query hashes cs is ws ss : List ℕ) (r : Begun) : Type 0 where
  pub many : r.coords ≡ length (union query hashes)
  pub numbers : drop (length query) is ≡ map (number_of (union query hashes)) hashes
  pub flags : asked (flags_of cs) ≡ asked (marks query (union query hashes))
  pub active : Active cs ws ss r.at []
