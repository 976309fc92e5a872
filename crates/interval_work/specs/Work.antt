-- What the parts of the work promise each other: the sweep over a part of the intervals, told by its coordinate numbers, and by its lists.
use Rattle.std.specs.Prelude.{◌≡◌, Bool, List, ℕ, ◌+◌, ◌-◌, ◌*◌, ◌≤◌, ◌<◌, length, take, replicate, ltb, Option, Some, None}
use Rattle.base.specs.Lists.{All, StrictAsc}
use Rattle.base.specs.declared.Range.{Range}
use Rattle.base.specs.declared.Settings.{Settings}
use Rattle.rules.specs.Limits.{query_limit, item_limit}
use Rattle.rules.specs.Lists.{filter}
use Rattle.rules.specs.Checks.{ceil64}
use Rattle.rules.specs.Score.{union}
use Rattle.rules.specs.Sweep.{Sweep, best}
use Rattle.rules.specs.Interval.{Interval, intervals_of, taken, coords_of, beginning, event_at, event_coord, spans}
use Rattle.rules.proofs.IntervalKeys.{insert_keys, delete_keys}
use Rattle.keys.specs.Lists.{below}
use Rattle.coordinates.specs.Coordinates.{flags, numbers}
use Rattle.slide_mapper.specs.State.{Blank}
use Rattle.sweep.specs.declared.work.Work.{Work}
use Rattle.sweep.specs.Lent as lent
use Rattle.interval_events.specs.declared.intervals.Intervals.{Intervals}
use Rattle.interval_events.specs.Spans.{Asks, raised}
use Rattle.interval_events.specs.Events.{kept, keys_of}
use Rattle.interval_work.specs.declared.Swept.{Swept}

-- what the sweep over given events asks: no item is active yet, the numbers begin active, every key lies past `from`
pub record Begin (ns ks : List ℕ) (from : ℕ) (cs ws ss : List ℕ) : Type 0 where
  pub blank : Blank cs ws ss
  pub numbers : All (λ i. i < length cs) ns
  pub few : length ns ≤ item_limit
  pub places : All (λ k. from < event_at k) ks
  pub coords : All (λ k. event_coord k < length cs) ks
  pub key_few : length ks ≤ item_limit + item_limit

-- the keys of later starts, and of ends, of these intervals
abbrev pub start_keys : (from to : ℕ) → (starts ends ns : List ℕ) → List ℕ
start_keys from to starts ends ns = keys_of 1 from to (kept from ends starts) ns

abbrev pub end_keys : (from to : ℕ) → (ends ns : List ℕ) → List ℕ
end_keys from to ends ns = keys_of 0 from to (kept from ends ends) ns

-- what the sweep over a part asks: each taken interval has its number, and the lists have room
pub record Given (xs : Intervals) (ns keys cs ws ss out : List ℕ) (from : ℕ) : Type 0 where
  pub taken_are : length ns ≡ length (kept from xs.ends.now xs.starts.now)
  pub few : length ns ≤ item_limit
  pub key_room : length ns ≤ length keys
  pub room : length ns + length ns ≤ length out
  pub blank : Blank cs ws ss
  pub numbers : All (λ i. i < length cs) ns

-- and of which sweep it tells: one with these flags, counts to begin with, and events
pub record Tells (s : Sweep) (ms : List Bool) (counts : List ℕ) (xs : Intervals) (ns : List ℕ) (from to : ℕ) : Type 0 where
  pub asks : Asks s ms to
  pub start : s.range.start ≡ from
  pub inserts : insert_keys s ≡ start_keys from to xs.starts.now xs.ends.now ns
  pub deletes : delete_keys s ≡ end_keys from to xs.ends.now ns
  pub begins : beginning s ≡ raised (take (length ns - length (start_keys from to xs.starts.now xs.ends.now ns)) ns) counts

-- a list that is zero, and long enough
pub record Zero (m : ℕ) (xs : List ℕ) : Type 0 where
  pub zeros : xs ≡ replicate (length xs) 0
  pub long : m ≤ length xs

-- what the numbering asks: room in each list, and count words that are zero
pub record Rooms (query hashes keys counts coords : List ℕ) : Type 0 where
  pub few : length query + length hashes ≤ 65536
  pub key_room : length query + length hashes ≤ length keys
  pub count_room : Zero (length query + length hashes) counts
  pub coord_room : length query + length hashes ≤ length coords

-- and answers: r coordinates, whose flags and whose hashes' numbers stand at the fronts
pub record Numbers (query hashes counts coords : List ℕ) (r : ℕ) : Type 0 where
  pub many : r ≡ length (union query hashes)
  pub flags_are : take r counts ≡ flags query (union query hashes)
  pub are : take (length query + length hashes) coords ≡ numbers query hashes

-- the sweep's query and range, and its taken intervals, which stand in this part of its lists
pub record Part (s : Sweep) (query : List ℕ) (xs : Intervals) (from to : ℕ) : Type 0 where
  pub query_is : s.query ≡ query
  pub start_is : s.range.start ≡ from
  pub end_is : s.range.end ≡ to
  pub taken_is : taken s ≡ filter (λ (i : Interval). ltb from i.end) (intervals_of xs.hashes.now xs.starts.now xs.ends.now)
  pub starts_end : All (λ p. p ≤ to) xs.starts.now

-- what the work over the part asks
pub record Lent (query : List ℕ) (xs : Intervals) (w : Work) (out : List ℕ) : Type 0 where
  pub some : 0 < length query
  pub query_asc : StrictAsc query
  pub few_hashes : length query ≤ query_limit
  pub few_items : length xs.hashes.now ≤ item_limit
  pub key_room : length query + length xs.hashes.now ≤ length w.keys.now
  pub count_room : Zero (length query + length xs.hashes.now) w.counts.now
  pub coord_room : length query + length xs.hashes.now ≤ length w.coords.now
  pub word_room : Zero (ceil64 (length query + length xs.hashes.now)) w.words.now
  pub summary_room : Zero (ceil64 (length w.words.now)) w.summary.now
  pub word_few : length w.words.now ≤ 1024
  pub room : length xs.hashes.now + length xs.hashes.now ≤ length out

-- what a sweep found: none where no interval was taken; else how many were, the coordinates and the best of the spans
pub record FoundOf (s : Sweep) (r : Swept) : Type 0 where
  pub some : 0 < length (taken s)
  pub items_are : r.items ≡ length (taken s)
  pub coords_are : r.coords ≡ length (coords_of s)
  pub best_is : r.best ≡ best (spans s)

abbrev pub Found : Sweep → Option Swept → Type 0
Found s None = length (taken s) ≡ 0
Found s (Some r) = FoundOf s r

-- the work lists, of exactly the needed sizes, are zero: m is k + items
pub record Clear (m items : ℕ) (w : Work) (out : List ℕ) : Type 0 where
  pub lists : lent.Zero m w
  pub out_zero : out ≡ replicate (2 * items) 0

-- the input that passed its checks, of which no early none holds, and where its taken intervals stand
pub record Ready (query : List ℕ) (xs : Intervals) (settings : Settings) (range : Range) (from to : ℕ) : Type 0 where
  pub some : 0 < length query
  pub query_asc : StrictAsc query
  pub few_hashes : length query ≤ query_limit
  pub few_items : length xs.hashes.now ≤ item_limit
  pub forward : range.start ≤ range.end
  pub from_is : from ≡ below (range.start - (settings.length + 1 - settings.kmer)) xs.starts.now
  pub to_is : to ≡ below (range.end + 1) xs.starts.now

-- the sweep has these lists, settings and range
pub record Of (s : Sweep) (query : List ℕ) (xs : Intervals) (settings : Settings) (range : Range) : Type 0 where
  pub query_is : s.query ≡ query
  pub hashes_are : s.hashes ≡ xs.hashes.now
  pub starts_are : s.starts ≡ xs.starts.now
  pub ends_are : s.ends ≡ xs.ends.now
  pub settings_are : s.settings ≡ settings
  pub range_is : s.range ≡ range
