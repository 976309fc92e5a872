-- The runs of minimum-hits neighbours by the index of their first hit: the run at i ends m further on, and gives a range where it is in one contig and
-- short enough. Of two keys in order and of one contig the distance is that of their positions. Assumes nothing.
use Prim.Native.Nat.{ℕ, suc, ◌+◌, ◌-◌, ◌^◌, ◌≤◌, ◌<◌}
use mathlib.Core.Path.{◌≡◌, refl}
use mathlib.Core.Bool.{and-false}
use mathlib.Core.Logic.{⊎_elim, ◌≢◌}
use mathlib.Core.List.{List, [], ◌∷◌, ◌++◌}
use native.Mathlib.Nat.{div-add-mod'}
use native.Mathlib.Numerals.{add-one}
use native.Mathlib.Omega.{arith}
use lib.ListN.{length, drop, get_or, drop_of_length-le}
use lib.Seq.{drop-cons}
use borrow.Author.Tests.{lt-ltb, le-ltb, eq-eqb, ne_eqb}
use Rattle.base.specs.Pick.{pick}
use Rattle.std.proofs.lemmas.Bool.{cases_eq}
use Rattle.rules.specs.Finder.{Candidate, key_contig, key_at, run_range, run_ranges}

-- the ranges of the runs whose first hit is at i or later
abbrev pub runs_from : ℕ → ℕ → List ℕ → ℕ → List Candidate
runs_from len m keys i = run_ranges len (drop i keys) (drop (i + m) keys)

no_last : (len : ℕ) (xs : List ℕ) → run_ranges len xs [] ≡ []
unfolding run_ranges
no_last len [] = refl
no_last len (x ∷ xs) = refl

module _ (len m : ℕ) (keys : List ℕ) (i : ℕ) where
  pub runs_next : i + m < length keys → runs_from len m keys i ≡ run_range len (get_or keys i 0) (get_or keys (i + m) 0) ++ runs_from len m keys (i + 1)
  unfolding run_ranges
  runs_next l =
      let first : i < length keys = omega arith in
      let next : suc (i + m) ≡ i + 1 + m = omega arith in
      rw (drop-cons keys i 0, drop-cons keys (i + m) 0, next, add-one i)

  pub runs_none : length keys ≤ i + m → runs_from len m keys i ≡ []
  runs_none l = rw (drop_of_length-le keys l) (no_last len (drop i keys))

-- a range
abbrev pub range_of_run : ℕ → ℕ → ℕ → Candidate
range_of_run len a z = record { contig = key_contig a; start = key_at z + 1 - len; end = key_at a }

module _ (len a z : ℕ) where
  pub run_other : key_contig a ≢ key_contig z → run_range len a z ≡ []
  unfolding run_range pick
  run_other n = rw (ne_eqb (key_contig a) (key_contig z) n)

  module _ (order : a ≤ z) where
    same_distance : key_contig a ≡ key_contig z → key_at z - key_at a ≡ z - a
    unfolding key_contig key_at
    same_distance e = omega (arith, div-add-mod' a (2 ^ 32), div-add-mod' z (2 ^ 32), e)

    pub run_near : key_contig a ≡ key_contig z → z - a < len → run_range len a z ≡ range_of_run len a z ∷ []
    unfolding run_range pick
    run_near e l = rw (eq-eqb (key_contig a) (key_contig z) e, lt-ltb (key_at z - key_at a) len (omega (arith, same_distance e)))

    too_long : key_contig a ≡ key_contig z → len ≤ z - a → run_range len a z ≡ []
    unfolding run_range pick
    too_long e l = rw (le-ltb (key_at z - key_at a) len (omega (arith, same_distance e)), and-false)

    -- as far as the length: in another contig, or too long
    pub run_far : len ≤ z - a → run_range len a z ≡ []
    run_far l = ⊎_elim (λ (e : key_contig a ≡ key_contig z). too_long e l) (λ (n : key_contig a ≢ key_contig z). run_other n) (cases_eq (key_contig a) (key_contig z))
