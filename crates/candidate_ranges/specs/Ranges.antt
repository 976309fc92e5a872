-- How ranges are joined, listed and written.
use Rattle.std.specs.Prelude.{◌≡◌, true, false, Option, Some, None, List, [], ◌∷◌, ◌++◌, map, ℕ, ◌+◌, ◌≤◌, length, set}
use Rattle.base.specs.Buffers.{over}
use Rattle.rules.specs.Finder.{Candidate, joins, joined, join_from, join_all}
use Rattle.candidate_ranges.specs.declared.candidates.L1Candidate.{L1Candidate}
use Rattle.candidate_ranges.specs.declared.candidates.CandidateLists.{CandidateLists}
use Rattle.candidate_ranges.specs.declared.candidates.Held.{Held}

-- a range as the rules have it
abbrev pub range_of : L1Candidate → Candidate
range_of c = record { contig = c.contig; start = c.start; end = c.end }

-- one or none
abbrev pub range_in : Option L1Candidate → Option Candidate
range_in None = None
range_in (Some c) = Some (range_of c)

-- and as a list
abbrev pub ranges_in : Option L1Candidate → List Candidate
ranges_in None = []
ranges_in (Some c) = range_of c ∷ []

-- the same three lists are lent on
pub record SameLists (old new : CandidateLists) : Type 0 where
  pub contigs : new.contigs.ghost_name ≡ old.contigs.ghost_name
  pub starts : new.starts.ghost_name ≡ old.starts.ghost_name
  pub ends : new.ends.ghost_name ≡ old.ends.ghost_name

-- places for n ranges
pub record Room (n : ℕ) (lists : CandidateLists) : Type 0 where
  pub contigs : n ≤ length lists.contigs.now
  pub starts : n ≤ length lists.starts.now
  pub ends : n ≤ length lists.ends.now

-- nothing was written
pub record Kept (old new : CandidateLists) : Type 0 where
  pub contigs : new.contigs.now ≡ old.contigs.now
  pub starts : new.starts.now ≡ old.starts.now
  pub ends : new.ends.now ≡ old.ends.now
  pub same : SameLists old new

-- a range was written at i
pub record Put (old : CandidateLists) (i : ℕ) (c : Candidate) (new : CandidateLists) : Type 0 where
  pub contigs : new.contigs.now ≡ set old.contigs.now i c.contig
  pub starts : new.starts.now ≡ set old.starts.now i c.start
  pub ends : new.ends.now ≡ set old.ends.now i c.end
  pub same : SameLists old new

abbrev pub one_in : Option Candidate → ℕ
one_in None = 0
one_in (Some _) = 1

-- how many ranges have begun
abbrev pub begun : Held → ℕ
begun h = h.written + one_in (range_in h.last)

-- this range is held, and n are written
pub record Holds (n : ℕ) (c : Candidate) (r : Held) : Type 0 where
  pub written : r.written ≡ n
  pub last : range_in r.last ≡ Some c

-- a range came: the first; one that joins the held one; one that has it written
pub record Pushed (gap : ℕ) (h : Held) (c : Candidate) (old new : CandidateLists) (r : Held) : Type 0 where
  pub first : range_in h.last ≡ None → Holds h.written c r × Kept old new
  pub join : (p : Candidate) → range_in h.last ≡ Some p → joins gap p c ≡ true → Holds h.written (joined p c) r × Kept old new
  pub push : (p : Candidate) → range_in h.last ≡ Some p → joins gap p c ≡ false → Holds (h.written + 1) c r × Put old h.written p new

-- no more come
pub record Finished (h : Held) (old new : CandidateLists) (r : ℕ) : Type 0 where
  pub none : range_in h.last ≡ None → (r ≡ h.written) × Kept old new
  pub some : (p : Candidate) → range_in h.last ≡ Some p → (r ≡ h.written + 1) × Put old h.written p new

-- the ranges that come, joined to the one that is held
abbrev pub join_to : ℕ → Option Candidate → List Candidate → List Candidate
join_to gap None rest = join_all gap rest
join_to gap (Some p) rest = join_from gap p rest

-- ranges written as they end: those that are done stand over the fronts, and with the one that is held and what is still to come they make the whole
pub record Holding (gap : ℕ) (whole rest : List Candidate) (old now : CandidateLists) (h : Held) : Type 0 where
  pub done : List Candidate
  pub many : length done ≡ h.written
  pub is : done ++ join_to gap (range_in h.last) rest ≡ whole
  pub contigs : now.contigs.now ≡ over (map (λ (c : Candidate). c.contig) done) old.contigs.now
  pub starts : now.starts.now ≡ over (map (λ (c : Candidate). c.start) done) old.starts.now
  pub ends : now.ends.now ≡ over (map (λ (c : Candidate). c.end) done) old.ends.now
  pub contigs_len : length now.contigs.now ≡ length old.contigs.now
  pub starts_len : length now.starts.now ≡ length old.starts.now
  pub ends_len : length now.ends.now ≡ length old.ends.now
  pub same : SameLists old now

-- the ranges stand over the fronts of the three output lists, and r says how many they are
pub record Listed (found : List Candidate) (old new : CandidateLists) (r : ℕ) : Type 0 where
  pub many : r ≡ length found
  pub contigs : new.contigs.now ≡ over (map (λ (c : Candidate). c.contig) found) old.contigs.now
  pub starts : new.starts.now ≡ over (map (λ (c : Candidate). c.start) found) old.starts.now
  pub ends : new.ends.now ≡ over (map (λ (c : Candidate). c.end) found) old.ends.now
  pub same : SameLists old new
