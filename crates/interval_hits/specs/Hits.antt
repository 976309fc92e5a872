-- What the parts that gather the keys of intervals promise each other.
use Rattle.std.specs.Prelude.{◌≡◌, List, ◌++◌, map, ℕ, ◌≤◌, length, take, drop}
use Rattle.base.specs.Sort.{sort_of}
use Rattle.rules.specs.Finder.{kept}
use Rattle.interval_hits.specs.declared.Kept.{Kept}
use Rattle.interval_hits.specs.declared.IntervalHits.{IntervalHits}
use Rattle.interval_hits.specs.declared.IntervalKeys.{IntervalKeys}
use Rattle.interval_hits.specs.Keys.{Hit, hits_of, open_of, close_of, intervals_of, Put, Fronts}

-- both lists have n places
pub record Room (n : ℕ) (keys : IntervalKeys) : Type 0 where
  pub opens : n ≤ length keys.opens.now
  pub closes : n ≤ length keys.closes.now

-- the same two lists are lent on
pub record SameKeys (old new : IntervalKeys) : Type 0 where
  pub opens : new.opens.ghost_name ≡ old.opens.ghost_name
  pub closes : new.closes.ghost_name ≡ old.closes.ghost_name
  pub opens_len : length new.opens.now ≡ length old.opens.now
  pub closes_len : length new.closes.now ≡ length old.closes.now

pub record PutAll (intervals : List Hit) (old : IntervalKeys) (n : ℕ) (new : IntervalKeys) (r : ℕ) : Type 0 where
  pub put : Put intervals old.opens.now old.closes.now n new.opens.now new.closes.now r
  pub same : SameKeys old new

-- the first n of each list are sorted
pub record Sorted (n : ℕ) (old new : IntervalKeys) : Type 0 where
  pub opened : new.opens.now ≡ sort_of (take n old.opens.now) ++ drop n old.opens.now
  pub closed : new.closes.now ≡ sort_of (take n old.closes.now) ++ drop n old.closes.now
  pub same : SameKeys old new

-- the hits, the kept ones, and the intervals among those
abbrev pub all_hits : IntervalHits → List Hit
all_hits h = hits_of h.contigs.now h.starts.now h.ends.now

abbrev pub kept_hits : IntervalHits → List Hit
kept_hits h = kept h.threshold h.groups.now (all_hits h)

abbrev pub kept_intervals : IntervalHits → List Hit
kept_intervals h = intervals_of h.threshold h.groups.now h.contigs.now h.starts.now h.ends.now

-- the keys of the intervals among the kept hits stand at the fronts; and how many hits were kept
pub record Filled (h : IntervalHits) (old new : IntervalKeys) (r : Kept) : Type 0 where
  pub fronts : Fronts (kept_intervals h) new.opens.now new.closes.now r.intervals
  pub hits_is : r.hits ≡ length (kept_hits h)
  pub same : SameKeys old new

-- the same, each list in order
pub record Gathered (h : IntervalHits) (opens closes : List ℕ) (r : Kept) : Type 0 where
  pub many : r.intervals ≡ length (kept_intervals h)
  pub opened : take r.intervals opens ≡ sort_of (map open_of (kept_intervals h))
  pub closed : take r.intervals closes ≡ sort_of (map close_of (kept_intervals h))
  pub hits_is : r.hits ≡ length (kept_hits h)
  pub opens_room : r.intervals ≤ length opens
  pub closes_room : r.intervals ≤ length closes
