-- The intervals among the hits, and what stands in two lists when their keys are put.
use Rattle.std.specs.Prelude.{◌≡◌, Bool, List, [], ◌∷◌, ◌++◌, map, ℕ, ◌+◌, ltb, length, take}
use Rattle.rules.specs.Lists.{filter}
use Rattle.rules.specs.Finder.{kept, key_of}

-- one hit
pub record Hit : Type 0 where
  pub contig : ℕ
  pub start : ℕ
  pub end : ℕ

-- the hits of three parallel lists
unfoldable pub hits_of : List ℕ → List ℕ → List ℕ → List Hit
hits_of [] ss es = []
hits_of (c ∷ cs) [] es = []
hits_of (c ∷ cs) (s ∷ ss) [] = []
hits_of (c ∷ cs) (s ∷ ss) (e ∷ es) = record { contig = c; start = s; end = e } ∷ hits_of cs ss es

-- intervals with start ≥ end are passed over
abbrev pub is_forward : Hit → Bool
is_forward h = ltb h.start h.end

abbrev pub forward : List Hit → List Hit
forward hits = filter is_forward hits

-- the keys of an interval's start and of its end
abbrev pub open_of : Hit → ℕ
open_of h = key_of h.contig h.start

abbrev pub close_of : Hit → ℕ
close_of h = key_of h.contig h.end

-- the intervals among the kept hits
abbrev pub intervals_of : ℕ → (groups contigs starts ends : List ℕ) → List Hit
intervals_of threshold groups contigs starts ends = forward (kept threshold groups (hits_of contigs starts ends))

-- the first r keys of each list are the first n, and then those of these intervals
pub record Put (intervals : List Hit) (opens closes : List ℕ) (n : ℕ) (opens' closes' : List ℕ) (r : ℕ) : Type 0 where
  pub many : r ≡ n + length intervals
  pub opened : take r opens' ≡ take n opens ++ map open_of intervals
  pub closed : take r closes' ≡ take n closes ++ map close_of intervals

-- the keys of these intervals stand at the fronts
pub record Fronts (intervals : List Hit) (opens closes : List ℕ) (n : ℕ) : Type 0 where
  pub many : n ≡ length intervals
  pub opened : take n opens ≡ map open_of intervals
  pub closed : take n closes ≡ map close_of intervals
