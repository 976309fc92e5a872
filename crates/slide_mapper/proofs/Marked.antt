-- Count words that are 1 where the coordinate is in the query and 0 elsewhere, as they stand before any item is active: their flags are the query's and no
-- count stands, since 1 is odd and half of it is 0. Assumes nothing.
use mathlib.Core.Path.{◌≡◌, refl, ap, ◌∙◌}
use mathlib.Core.Bool.{Bool, true, false}
use mathlib.Core.List.{List, [], ◌∷◌, map}
use Prim.Native.Nat.{ℕ, ◌/◌, ◌%◌, ◌≤◌}
use native.Mathlib.Omega.{arith}
use lib.Dec.{eqb}
use lib.ListN.{length, get_or, length-map}
use Rattle.base.specs.Pick.{pick}
use Rattle.base.specs.Lists.{StrictAsc}
use Rattle.base.proofs.Lists.{zeros_at}
use Rattle.rules.specs.Lists.{member}
use Rattle.rules.specs.Script.{no_counts}
use Rattle.rules.specs.Moves.{marks}
use Rattle.rules.specs.Ranks.{size}
use Rattle.rules.proofs.Slide.{size_query}
use Rattle.slide_mapper.specs.State.{flags_of, counts_of}
use Rattle.slide_mapper.proofs.State.{counts_at}

abbrev pub ones : List ℕ → List ℕ → List ℕ
ones query coords = map (λ (c : ℕ). pick (member c query) 1 0) coords

flag_bit : (b : Bool) → eqb (pick b 1 0 % 2) 1 ≡ b
unfolding pick
flag_bit true = refl
flag_bit false = refl

no_count : (b : Bool) → pick b 1 0 / 2 ≡ 0
unfolding pick
no_count true = refl
no_count false = refl

module _ (query : List ℕ) where
  pub ones_flags : (coords : List ℕ) → flags_of (ones query coords) ≡ marks query coords
  unfolding flags_of marks
  ones_flags [] = refl
  ones_flags (c ∷ cs) = rw (flag_bit (member c query), ones_flags cs)

  pub ones_counts : (coords : List ℕ) → counts_of (ones query coords) ≡ no_counts coords
  unfolding counts_of no_counts
  ones_counts [] = refl
  ones_counts (c ∷ cs) = rw (no_count (member c query), ones_counts cs)

  pub ones-length : (coords : List ℕ) → length (ones query coords) ≡ length coords
  ones-length coords = length-map coords (λ (c : ℕ). pick (member c query) 1 0)

  pub ones_low : (coords : List ℕ) (i : ℕ) → get_or (ones query coords) i 0 ≤ 1
  unfolding no_counts
  ones_low coords i =
      let e : get_or (counts_of (ones query coords)) i 0 ≡ 0 = ap (λ (l : List ℕ). get_or l i 0) (ones_counts coords) ∙ zeros_at (length coords) i in
      omega (arith, e, counts_at (ones query coords) i)

  -- as many flags as the query has hashes
  pub ones-size : (coords : List ℕ) → StrictAsc query → StrictAsc coords → ((h : ℕ) → member h query ≡ true → member h coords ≡ true) → size (flags_of (ones query coords)) ≡ length query
  ones-size coords query_asc coords_asc within = ap size (ones_flags coords) ∙ size_query query coords coords query_asc coords_asc within refl
