-- The sweep over its spans, for intervals that are told by their event keys and their coordinate numbers.
use Rattle.std.specs.Prelude.{◌≡◌, Bool, List, [], ◌∷◌, ℕ, ◌+◌, ◌-◌, ◌≤◌, ◌<◌, length, get_or}
use Rattle.base.specs.Lists.{All, StrictAsc}
use Rattle.base.specs.declared.Best.{Best}
use Rattle.rules.specs.Limits.{item_limit}
use Rattle.rules.specs.Script.{stepped}
use Rattle.rules.specs.Moves.{marks}
use Rattle.rules.specs.Sweep.{Sweep, best}
use Rattle.rules.specs.Interval.{coords_of, event_at, event_coord, spans_from}
use Rattle.base.specs.declared.Slide.{Slide}
use Rattle.slide_mapper.specs.declared.lists.MapperLists.{MapperLists}
use Rattle.slide_mapper.specs.State.{flags_of, counts_of}
use Rattle.slide_mapper.specs.Lent.{AtPivot}

-- the sweep's query has these flags among its coordinates, and its range this end
pub record Asks (s : Sweep) (ms : List Bool) (to : ℕ) : Type 0 where
  pub order : StrictAsc s.query
  pub flags : marks s.query (coords_of s) ≡ ms
  pub end : s.range.end ≡ to

-- a step of the mapper: it is ready for the next, the query is as it was, and the counts are the rules'
pub record Stepped (kind i : ℕ) (old new : MapperLists) (r : Slide) : Type 0 where
  pub pivot : AtPivot new r
  pub flags : flags_of new.counts.now ≡ flags_of old.counts.now
  pub counts : counts_of new.counts.now ≡ stepped kind i (counts_of old.counts.now)

-- what a step asks: the coordinate is one of the list, and its count has room
pub record Room (key : ℕ) (m : MapperLists) (at : Slide) : Type 0 where
  pub pivot : AtPivot m at
  pub inside : event_coord key < length m.counts.now
  pub few : get_or (counts_of m.counts.now) (event_coord key) 0 < 1048576

-- where the span before these keys ends: before the first of them, or at range end
unfoldable pub end_before : ℕ → List ℕ → ℕ
end_before to [] = to
end_before to (k ∷ ks) = event_at k - 1

-- one insert for each number
unfoldable pub raised : List ℕ → List ℕ → List ℕ
raised [] counts = counts
raised (i ∷ is) counts = raised is (stepped 1 i counts)

-- what filling asks: no number is active yet, and each is in the list
pub record Empty (ns : List ℕ) (m : MapperLists) (at : Slide) : Type 0 where
  pub pivot : AtPivot m at
  pub none : (j : ℕ) → get_or (counts_of m.counts.now) j 0 ≡ 0
  pub numbers : All (λ i. i < length m.counts.now) ns
  pub few : length ns ≤ item_limit

-- and answers: the numbers are active
pub record Filled (ns : List ℕ) (old new : MapperLists) (r : Slide) : Type 0 where
  pub pivot : AtPivot new r
  pub flags : flags_of new.counts.now ≡ flags_of old.counts.now
  pub counts : counts_of new.counts.now ≡ raised ns (counts_of old.counts.now)
  pub few : (j : ℕ) → get_or (counts_of new.counts.now) j 0 ≤ item_limit

-- what the sweep asks: every key lies past the first position, its coordinate is in the list, and there are at most two for each item
pub record Start (ks : List ℕ) (from : ℕ) (m : MapperLists) (at : Slide) : Type 0 where
  pub pivot : AtPivot m at
  pub places : All (λ k. from < event_at k) ks
  pub coords : All (λ k. event_coord k < length m.counts.now) ks
  pub counts : (j : ℕ) → get_or (counts_of m.counts.now) j 0 ≤ item_limit
  pub few : length ks ≤ item_limit + item_limit

-- and answers: the best of all spans, of every sweep that asks so
abbrev pub BestOf : List Bool → List ℕ → ℕ → ℕ → List ℕ → Best → Type 0
BestOf ms ks from to counts r = (s : Sweep) → Asks s ms to → r ≡ best (spans_from s from counts ks)
