-- What the parts of the sweep over starts and ends promise each other.
use Rattle.std.specs.Prelude.{◌≡◌, Some, None, false, List, [], ◌++◌, map, ℕ, ◌+◌, ◌-◌, ◌*◌, ◌≤◌, ◌<◌, length, get_or, drop}
use Rattle.base.specs.Sort.{sort_of}
use Rattle.rules.specs.Finder.{Candidate, key_contig, key_at, joins, join_all, covered_from, covered}
use Rattle.candidate_ranges.specs.declared.candidates.CandidateLists.{CandidateLists}
use Rattle.candidate_ranges.specs.declared.candidates.Held.{Held}
use Rattle.candidate_ranges.specs.Ranges.{range_in, begun, Kept, Pushed, Holding}
use Rattle.interval_cover.specs.declared.Cover.{Cover}

-- the rules' events of these starts and ends
unfoldable pub events_of : List ℕ → List ℕ → List ℕ
events_of opens closes = sort_of (map (λ (k : ℕ). k * 2 + 1) opens ++ map (λ (k : ℕ). k * 2) closes)

-- the events that are left where i starts and j ends are passed
abbrev pub events_left : List ℕ → List ℕ → ℕ → ℕ → List ℕ
events_left opens closes i j = events_of (drop i opens) (drop j closes)

-- the ranges that the minimum or more cover, touching ones joined
abbrev pub ranges_of : ℕ → List ℕ → List ℕ → List Candidate
ranges_of minimum opens closes = join_all 1 (covered minimum (events_of opens closes))

-- two keys in order, of one contig
pub record Between (key next : ℕ) : Type 0 where
  pub order : key < next
  pub same : key_contig key ≡ key_contig next

-- the positions from a key to before the next
abbrev pub stretch : ℕ → ℕ → Candidate
stretch key next = record { contig = key_contig key; start = key_at key; end = key_at next - 1 }

-- nothing to add; or the stretch comes
pub record Extended (minimum active key next : ℕ) (held : Held) (old new : CandidateLists) (r : Held) : Type 0 where
  pub nothing : active < minimum → (r ≡ held) × Kept old new
  pub added : minimum ≤ active → Pushed 1 held (stretch key next) old new r

-- i elements of a sorted list are below x
pub record Cut (xs : List ℕ) (x i : ℕ) : Type 0 where
  pub upto : i ≤ length xs
  pub before : 0 < i → get_or xs (i - 1) 0 < x
  pub after : i < length xs → x ≤ get_or xs i 0

-- how the sweep stands before a position, after all keys at the last one. A range is begun only where more are active than before, so no more than starts
pub record Sweeping (c : Cover) (old now : CandidateLists) (held : Held) (key i j : ℕ) : Type 0 where
  pub open_upto : i ≤ length c.opens.now
  pub close_upto : j ≤ length c.closes.now
  pub started : 0 < i → Cut c.opens.now (key + 1) i × Cut c.closes.now (key + 1) j
  pub fresh : i ≡ 0 → j ≡ 0
  pub holding : Holding 1 (ranges_of c.minimum c.opens.now c.closes.now) (covered_from c.minimum (i - j) key (events_left c.opens.now c.closes.now i j)) old now held
  pub few : begun held ≤ i
  pub none : range_in held.last ≡ None → held.written ≡ 0
  pub room : (p : Candidate) (q : ℕ) → range_in held.last ≡ Some p → c.minimum ≤ i - j → joins 1 p (stretch key q) ≡ false → begun held < i

-- all ranges but the held one are written
pub record Swept (c : Cover) (old now : CandidateLists) (held : Held) : Type 0 where
  pub holding : Holding 1 (ranges_of c.minimum c.opens.now c.closes.now) [] old now held
  pub few : begun held ≤ length c.opens.now
