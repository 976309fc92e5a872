-- What the code of the interval sweep needs of the spans, round by round: a key at the present position is handled and scores nothing, one at another
-- position scores the span before it, the end scores the last; and no best passes the number of query hashes, so the distance table has its entry.
-- Assumes nothing.
use Prim.Native.Nat.{ℕ, ◌-◌, ◌≤◌}
use native.Mathlib.Omega.{arith}
use mathlib.Core.Path.{◌≡◌, refl}
use mathlib.Core.Logic.{⊎_elim}
use mathlib.Core.Bool.{true, false}
use mathlib.Core.List.{List, [], ◌∷◌, map}
use lib.ListN.{length, length-map, get_or-map}
use lib.Dec.{eqb}
use borrow.Author.Tests.{eq-eqb, ne_eqb}
use Rattle.base.specs.Pick.{pick}
use Rattle.base.specs.Lists.{All}
use Rattle.base.proofs.Lists.{all_at}
use Rattle.rules.specs.Lists.{member}
use Rattle.rules.specs.Script.{stepped, active}
use Rattle.rules.specs.Sweep.{Sweep, Scored, best}
use Rattle.rules.specs.Interval.{taken, hashes_of, coords_of, event_at, event_kind, event_coord, events, beginning, span, spans_from, spans}
use Rattle.rules.proofs.Score.{cases, score_most, union_left}
use Rattle.rules.proofs.Sweep.{scored}
use Rattle.rules.proofs.SweepBest.{best_is}

-- every query hash is a coordinate
pub query_coords : (s : Sweep) (h : ℕ) → member h s.query ≡ true → member h (coords_of s) ≡ true
unfolding coords_of
query_coords s h m = union_left h s.query (hashes_of (taken s)) m

module _ (s : Sweep) (from : ℕ) (counts : List ℕ) where
  pub spans_end : spans_from s from counts [] ≡ span s counts from s.range.end ∷ []
  unfolding spans_from
  spans_end = refl

  module _ (k : ℕ) (ks : List ℕ) where
    -- one more key at this position
    pub spans_here : event_at k ≡ from → spans_from s from counts (k ∷ ks) ≡ spans_from s from (stepped (event_kind k) (event_coord k) counts) ks
    unfolding spans_from pick
    spans_here e = rw (e, eq-eqb from from refl)

    -- the first key at another position: the span ends before it, and the key is still to be handled
    pub spans_next : (event_at k ≡ from → ⊥) → spans_from s from counts (k ∷ ks) ≡ span s counts from (event_at k - 1) ∷ spans_from s (event_at k) counts (k ∷ ks)
    unfolding spans_from pick
    spans_next n = rw (ne_eqb (event_at k) from n, eq-eqb (event_at k) (event_at k) refl)

-- ---- no best passes a bound that every score keeps

abbrev scores_of : List Scored → List ℕ
scores_of xs = map (λ (x : Scored). x.score) xs

pub best_most : (n : ℕ) (xs : List Scored) → All (λ v. v ≤ n) (scores_of xs) → (best xs).shared ≤ n
unfolding best
best_most n [] a = omega arith
best_most n (x ∷ xs) a =
    let e = (best_is x xs).earliest in
    omega (arith, e.1.has, get_or-map (λ (y : Scored). y.score) (x ∷ xs) e.0 (scored 0 0 0), all_at (λ v. v ≤ n) (scores_of (x ∷ xs)) a e.0 (omega (arith, e.1.inside, length-map (x ∷ xs) (λ (y : Scored). y.score))))

spans_most : (s : Sweep) (ks : List ℕ) (from : ℕ) (counts : List ℕ) → All (λ v. v ≤ length s.query) (scores_of (spans_from s from counts ks))
unfolding spans_from span pick
spans_most s [] from counts = (score_most s.query (active (coords_of s) counts), tt)
spans_most s (k ∷ ks) from counts =
    let rest = spans_most s ks (event_at k) (stepped (event_kind k) (event_coord k) counts) in
    ⊎_elim (λ (e : eqb (event_at k) from ≡ true). rw e rest) (λ (e : eqb (event_at k) from ≡ false). rw e (score_most s.query (active (coords_of s) counts), rest))
    (cases (eqb (event_at k) from))

pub interval_most : (s : Sweep) → (best (spans s)).shared ≤ length s.query
unfolding spans
interval_most s = best_most (length s.query) (spans_from s s.range.start (beginning s) (events s)) (spans_most s (events s) s.range.start (beginning s))
