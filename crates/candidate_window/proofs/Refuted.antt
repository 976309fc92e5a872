-- Wrong minimizer finders that the contract refuses, each at a row: there the promise's answer, or a lent list, is a value that computes, and the wrong
-- program's is another. One that refuses all, one that lists nothing and one that leaves its candidate lists are refuted in `rules`. Assumes nothing.
use Prim.Native.Nat.{ℕ}
use mathlib.Core.Path.{◌≡◌, refl, ap}
use mathlib.Core.List.{[], ◌∷◌}
use native.Mathlib.Omega.{arith}
use Rattle.base.specs.Answers.{FinderAnswer, listed}
use Rattle.rules.specs.Finder.{Finder}
use Rattle.rules.specs.Calls.{FinderLent, MinimizerFinderPromise}
use Rattle.rules.specs.Computes.{computes}
use Rattle.rules.proofs.Refuted.{value, ones_hits, row_h, work_unzeroed}
use Rattle.candidate_window.specs.Given.{finder_of}

-- row H, hits at 5, 8 and 15, is what the call asks for
pub row_h_is : row_h ≡ finder_of (3 ∷ []) (0 ∷ 0 ∷ 0 ∷ []) (5 ∷ 8 ∷ 15 ∷ []) 100 2 10
row_h_is = refl

-- made-up ranges, ranges in another order, or an entry past them that was touched: the three lists are 0..5 and 6..8 of contig 0, and the third entry as it was
pub finder_made_up : (r : FinderAnswer) (after : FinderLent) → MinimizerFinderPromise row_h r ones_hits after
    → (after.contigs ≡ 0 ∷ 0 ∷ 9 ∷ []) × (after.starts ≡ 0 ∷ 6 ∷ 9 ∷ []) × (after.ends ≡ 5 ∷ 8 ∷ 9 ∷ [])
unfolding computes
finder_made_up r after p = (p.left.contigs, p.left.starts, p.left.ends)

-- keys left unzeroed
pub finder_leaves_keys : (r : FinderAnswer) (after : FinderLent) → after.keys ≡ ones_hits.keys → MinimizerFinderPromise row_h r ones_hits after → ⊥
unfolding computes
finder_leaves_keys r after kept p = work_unzeroed 3 _ p.left.keys (omega arith) refl kept

-- the hits at 5 and 8 in a group as long as the threshold, and the one at 15 in a shorter one
abbrev dropped : Finder
dropped = finder_of (2 ∷ 1 ∷ []) (0 ∷ 0 ∷ 0 ∷ []) (5 ∷ 8 ∷ 15 ∷ []) 2 1 10

-- seed hits of dropped groups, or ranges of a group as long as the threshold: one range, and one seed hit
pub finder_keeps_dropped : (n hits : ℕ) (after : FinderLent) → MinimizerFinderPromise dropped (listed n hits) ones_hits after
    → (n ≡ 1) × (hits ≡ 1) × (after.starts ≡ 6 ∷ 9 ∷ 9 ∷ [])
unfolding computes
finder_keeps_dropped n hits after p = (ap (value 0) p.answer, ap (value 1) p.answer, p.left.starts)
