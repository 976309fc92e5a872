-- The sweep over its stops, for items that are told by their positions and their coordinate numbers.
use Rattle.std.specs.Prelude.{◌≡◌, Bool, List, map, ℕ, ◌+◌, ◌-◌, ◌^◌, ◌≤◌, ◌<◌, length, take, drop}
use Rattle.base.specs.Lists.{All, Asc}
use Rattle.base.specs.declared.Best.{Best}
use Rattle.rules.specs.Limits.{item_limit}
use Rattle.rules.specs.Sweep.{Scored, best_from, best}
use Rattle.rules.specs.Minimizer.{Item, items_of, first_stop, stops_from, scored_stop}
use Rattle.rules.specs.Minimizer as rules
use Rattle.base.specs.declared.Slide.{Slide}
use Rattle.slide_mapper.specs.declared.lists.MapperLists.{MapperLists}
use Rattle.slide_mapper.specs.State.{flags_of}
use Rattle.sweep.specs.Active.{asked, Active}
use Rattle.minimizer_stops.specs.declared.Stop.{Stop}
use Rattle.minimizer_stops.specs.declared.Swept.{Swept}

-- items at these positions: all that a stop is chosen by
abbrev pub sites : List ℕ → List Item
sites ps = items_of ps ps

-- a stop as the rules have it
abbrev pub stop_of : Stop → rules.Stop
stop_of t = record { b = t.b; e = t.e; p = t.p.0 }

-- a score that is recorded for one position
abbrev pub scored_at : ℕ → ℕ → Scored
scored_at s p = record { score = s; first = p; last = p }

-- stops, scored for the query and the items as numbers
abbrev pub scored_for : List Bool → List ℕ → List ℕ → List rules.Stop → List Scored
scored_for ms ns ps ts = map (scored_stop (asked ms) (items_of ns ps)) ts

-- the next stop has both its items and fits its fields
pub record Room (ps : List ℕ) (w : ℕ) (t : Stop) : Type 0 where
  pub order : t.b < t.e
  pub inside : t.e < length ps
  pub near : t.p.0 < 2 ^ 32
  pub small : w < 2 ^ 32

-- the items from b to e are active
pub record Holds (ns : List ℕ) (m : MapperLists) (at : Slide) (b e : ℕ) : Type 0 where
  pub active : Active m.counts.now m.words.now m.summary.now at (take (e - b) (drop b ns))
  pub numbers : All (λ i. i < length m.counts.now) ns
  pub few : length ns ≤ item_limit
  pub order : b ≤ e
  pub inside : e ≤ length ns

-- from a stop to the next: b moves on, or e, or both
pub record Step (ns : List ℕ) (t u : Stop) : Type 0 where
  pub begin_up : t.b ≤ u.b
  pub begin_one : u.b ≤ t.b + 1
  pub end_up : t.e ≤ u.e
  pub end_one : u.e ≤ t.e + 1
  pub further : t.b + t.e < u.b + u.e
  pub order : t.b < t.e
  pub inside : u.e ≤ length ns

-- the query is as it was
pub record Kept (old new : MapperLists) : Type 0 where
  pub query : flags_of new.counts.now ≡ flags_of old.counts.now

-- what the sweep asks at its first stop
pub record Start (ps ns : List ℕ) (w : ℕ) (m : MapperLists) (at : Slide) (t : Stop) : Type 0 where
  pub holds : Holds ns m at t.b t.e
  pub parallel : length ns ≡ length ps
  pub asc : Asc ps
  pub some : 0 < w
  pub small : w < 2 ^ 32
  pub order : t.b < t.e

-- all stops from the first
abbrev pub stops_of : ℕ → ℕ → List ℕ → rules.Stop → List rules.Stop
stops_of w range_end ps t = stops_from (length ps + length ps) w range_end (sites ps) t

-- what it answers: the best so far and all stops, and their number
pub record Over (ms : List Bool) (ps ns : List ℕ) (w range_end : ℕ) (t : rules.Stop) (first : Best) (r : Swept) : Type 0 where
  pub best : r.best ≡ best_from first (scored_for ms ns ps (stops_of w range_end ps t))
  pub windows : r.windows ≡ length (stops_of w range_end ps t)

-- what the whole sweep asks: no item is active yet, and there is one
pub record Begin (ps ns : List ℕ) (w : ℕ) (m : MapperLists) (at : Slide) : Type 0 where
  pub holds : Holds ns m at 0 0
  pub parallel : length ns ≡ length ps
  pub asc : Asc ps
  pub some : 0 < w
  pub small : w < 2 ^ 32
  pub item : 0 < length ps

-- and answers: the best of all stops, and their number
pub record Whole (ms : List Bool) (ps ns : List ℕ) (w range_end : ℕ) (r : Swept) : Type 0 where
  pub best : r.best ≡ best (scored_for ms ns ps (stops_of w range_end ps (first_stop w (sites ps))))
  pub windows : r.windows ≡ length (stops_of w range_end ps (first_stop w (sites ps)))
