-- What the work asks and answers.
use Rattle.std.specs.Prelude.{◌≡◌, true, false, Option, Some, None, List, map, ℕ, ◌+◌, ◌^◌, ◌≤◌, ◌<◌, length}
use Rattle.base.specs.Lists.{Asc, StrictAsc}
use Rattle.rules.specs.Limits.{query_limit, item_limit}
use Rattle.rules.specs.Score.{union}
use Rattle.rules.specs.Sweep.{Sweep}
use Rattle.rules.specs.Sweep as rules
use Rattle.rules.specs.Minimizer.{Item, Stop, windows_per_start, first_stop, stops_from, scored_stop, scored_stops, scored_starts}
use Rattle.rules.specs.Place.{minimizer_early, minimizer_stats}
use Rattle.rules.specs.Calls.{minimizer_premises}
use Rattle.keys.specs.Lists.{below}
use Rattle.sweep.specs.Beginning.{Given}
use Rattle.sweep.specs.declared.Found.{Found}
use Rattle.minimizer_work.specs.declared.items.Items.{Items}

-- lists that passed their checks
pub record Ready (query hashes starts : List ℕ) : Type 0 where
  pub few_hashes : length query ≤ query_limit
  pub few_items : length hashes ≤ item_limit
  pub parallel : length hashes ≡ length starts
  pub query_asc : StrictAsc query
  pub starts_asc : Asc starts

-- for local items: there is one, W is at least 1, and so is the number of query hashes
pub record Asks (query : List ℕ) (xs : Items) (w : ℕ) : Type 0 where
  pub given : Given query xs.hashes.now
  pub few : length xs.hashes.now ≤ item_limit
  pub some : 0 < w
  pub small : w < 2 ^ 32
  pub item : 0 < length xs.positions.now

-- all stops of some items, as the rules have them
abbrev pub stops_in : ℕ → ℕ → List Item → List Stop
stops_in w last items = stops_from (length items + length items) w last items (first_stop w items)

-- their best, and what was counted
pub record Answers (query : List ℕ) (items : List Item) (w last : ℕ) (r : Found) : Type 0 where
  pub best : r.best ≡ rules.best (map (scored_stop query items) (stops_in w last items))
  pub windows : r.stats.windows ≡ length (stops_in w last items)
  pub coords : r.stats.coords ≡ length (union query (map (λ (x : Item). x.hash) items))
  pub items_are : r.stats.items ≡ length items

-- the local items are those from the first of the two bounds to the second, and there is one
pub record Local (s : Sweep) (from to : ℕ) : Type 0 where
  pub begins : from ≡ below s.range.start s.starts
  pub ends : to ≡ below (s.range.end + s.settings.length) s.starts
  pub item : from < to

-- a range that is no early none, whose local items are those from the first of the two bounds to the second
pub record Task (s : Sweep) (from to : ℕ) : Type 0 where
  pub ready : Ready s.query s.hashes s.starts
  pub windows : 0 < windows_per_start s
  pub hash : 0 < length s.query
  pub bounds : Local s from to

-- its best, by steps and by scoring every admitted start, and its statistics
pub record Done (s : Sweep) (r : Found) : Type 0 where
  pub best : r.best ≡ rules.best (scored_stops s)
  pub scored : minimizer_premises s ≡ true → r.best ≡ rules.best (scored_starts s)
  pub stats : r.stats ≡ minimizer_stats s

-- the same of a range that is no early none
pub record Late (s : Sweep) (r : Found) : Type 0 where
  pub windows : 0 < windows_per_start s
  pub late : minimizer_early s ≡ false
  pub done : Done s r

-- what is told of a range: none exactly where the rules settle that before coordinates are built
abbrev pub Told : Sweep → Option Found → Type 0
Told s None = minimizer_early s ≡ true
Told s (Some r) = Late s r
