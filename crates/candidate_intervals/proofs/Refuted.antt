-- Wrong interval finders that the contract refuses, each at a row: there the promise's answer, or a lent list, is a value that computes, and the wrong
-- program's is another. One that lists nothing is refuted in `rules`. Assumes nothing.
use Prim.Native.Nat.{ℕ}
use mathlib.Core.Path.{◌≡◌, refl, ap}
use mathlib.Core.List.{List, [], ◌∷◌}
use native.Mathlib.Omega.{arith}
use lib.ListN.{get_or, replicate}
use Rattle.std.specs.Prelude.{Err}
use Rattle.base.specs.declared.Refusal.{Refusal}
use Rattle.base.specs.Answers.{FinderAnswer, listed}
use Rattle.rules.specs.Finder.{Finder}
use Rattle.rules.specs.Calls.{FinderLent, IntervalFinderPromise}
use Rattle.rules.specs.Computes.{computes}
use Rattle.rules.proofs.Refuted.{size, value, ones_hits, row_k, work_unzeroed}
use Rattle.candidate_intervals.specs.Given.{finder_of}

-- row K, the intervals [2,6), [4,8) and [6,9), is what the call asks for
pub row_k_is : row_k ≡ finder_of (3 ∷ []) (0 ∷ 0 ∷ 0 ∷ []) (2 ∷ 4 ∷ 6 ∷ []) (6 ∷ 8 ∷ 9 ∷ []) 100 2
row_k_is = refl

-- one that refuses all
pub interval_finder_refuses_all : (x : Refusal) (after : FinderLent) (closes : List ℕ) → IntervalFinderPromise row_k (Err x) ones_hits after (replicate 3 1) closes → ⊥
unfolding computes
interval_finder_refuses_all x after closes p = let e : ◌≡◌ {A = ℕ} 0 2 = ap size p.answer in omega (arith, e)

-- one that does nothing to its candidate lists
pub interval_finder_does_nothing : (r : FinderAnswer) (closes : List ℕ) → IntervalFinderPromise row_k r ones_hits ones_hits (replicate 3 1) closes → ⊥
unfolding computes
interval_finder_does_nothing r closes p = let e : ◌≡◌ {A = ℕ} 9 0 = ap (λ xs. get_or xs 0 0) p.left.contigs in omega (arith, e)

-- made-up ranges, touching ranges left apart, or an entry past them that was touched: the three lists are 4..7 of contig 0, and the others as they were
pub interval_finder_made_up : (r : FinderAnswer) (after : FinderLent) (closes : List ℕ) → IntervalFinderPromise row_k r ones_hits after (replicate 3 1) closes
    → (after.contigs ≡ 0 ∷ 9 ∷ 9 ∷ []) × (after.starts ≡ 4 ∷ 9 ∷ 9 ∷ []) × (after.ends ≡ 7 ∷ 9 ∷ 9 ∷ [])
unfolding computes
interval_finder_made_up r after closes p = (p.left.contigs, p.left.starts, p.left.ends)

-- keys of ends left unzeroed
pub interval_finder_leaves_keys : (r : FinderAnswer) (after : FinderLent) → IntervalFinderPromise row_k r ones_hits after (replicate 3 1) (replicate 3 1) → ⊥
unfolding computes
interval_finder_leaves_keys r after p = work_unzeroed 3 _ p.end_keys_left (omega arith) refl refl

-- two hits in a group as long as the threshold, and an empty interval in a shorter one
abbrev dropped : Finder
dropped = finder_of (2 ∷ 1 ∷ []) (0 ∷ 0 ∷ 0 ∷ []) (2 ∷ 4 ∷ 6 ∷ []) (6 ∷ 8 ∷ 6 ∷ []) 2 1

-- seed hits of dropped groups, or ranges of a group as long as the threshold, or an empty interval not counted: no range, and one seed hit
pub interval_finder_keeps_dropped : (n hits : ℕ) (after : FinderLent) (closes : List ℕ) → IntervalFinderPromise dropped (listed n hits) ones_hits after (replicate 3 1) closes
    → (n ≡ 0) × (hits ≡ 1)
unfolding computes
interval_finder_keeps_dropped n hits after closes p = (ap (value 0) p.answer, ap (value 1) p.answer)
