-- The four kinds of step keep the pivot and the shared count: a query hash comes or goes (the union stays, the pivot stays), or another hash comes or
-- goes (the shared hashes stay; beyond the pivot nothing moves, at or before it the pivot moves to its nearest neighbour in the union).
use mathlib.Core.Path.{◌≡◌, sym, ap, ◌∙◌}
use mathlib.Core.Logic.{⊎_elim}
use Prim.Native.Nat.{ℕ, ◌+◌, ◌-◌, ◌≤◌, ◌<◌}
use native.Mathlib.Decide.{ℕ_discrete}
use native.Mathlib.Omega.{arith}
use native.Mathlib.Nat.{eq-or-lt_of_le}
use Rattle.base.specs.Nearest.{LastBelow, NoneBelow, FirstFrom, NoneFrom}
use Rattle.base.specs.Counting.{count, Same, Bump}
use Rattle.std.proofs.lemmas.Bool.{cases_lt}
use Rattle.base.proofs.Counting.{count-zero, count_next, count_same, count-le, count_none, count_up, bump_out, bump_in}
use Rattle.rules.specs.Ranks.{either, both, PivotAt}

-- ---- what a change of the active hashes does to the union and the meet: b is a and one more, i
module _ (q a b : ℕ → ℕ) (i : ℕ) (off : a i ≡ 0) (up : Bump a b i) where
  pub in_query_union : q i ≡ 1 → Same (either q a) (either q b)
  in_query_union h j = go (ℕ_discrete j i)
    where
      go : Dec (j ≡ i) → either q b j ≡ either q a j
      go (yes e) = rw e (omega (arith, up.here))
      go (no n) = omega (arith, up.else j n)

  pub in_query_meet : q i ≡ 1 → Bump (both q a) (both q b) i
  in_query_meet h = record { here = omega (arith, up.here); else = λ j n. omega (arith, up.else j n) }

  pub out_query_union : q i ≡ 0 → Bump (either q a) (either q b) i
  out_query_union h = record { here = omega (arith, up.here); else = λ j n. omega (arith, up.else j n) }

  pub out_query_meet : q i ≡ 0 → Same (both q a) (both q b)
  out_query_meet h j = go (ℕ_discrete j i)
    where
      go : Dec (j ≡ i) → both q b j ≡ both q a j
      go (yes e) = rw e (omega arith)
      go (no n) = omega (arith, up.else j n)

pub at_same : (u v g h : ℕ → ℕ) (k p s : ℕ) → Same u v → Same g h → PivotAt u g k p s → PivotAt v h k p s
at_same u v g h k p s e f a = record {
  on = e p ∙ a.on;
  rank = omega (arith, count_same u v p e, a.rank);
  shared = count_same g h (p + 1) f ∙ a.shared;
}

-- ---- a hash of the query becomes active, or is active no more: the pivot stays
module _ (u v g h : ℕ → ℕ) (i k p s : ℕ) (same : Same u v) (at : PivotAt u g k p s) where
  stays : (t : ℕ) → count h (p + 1) ≡ t → PivotAt v h k p t
  stays t e = record { on = same p ∙ at.on; rank = omega (arith, count_same u v p same, at.rank); shared = e }

  pub shared_more : Bump g h i → i ≤ p → PivotAt v h k p (s + 1)
  shared_more b l = stays (s + 1) (omega (arith, bump_in g h i (p + 1) b (omega arith), at.shared))

  pub shared_kept : Bump g h i → p < i → PivotAt v h k p s
  shared_kept b l = stays s (omega (arith, bump_out g h i (p + 1) b (omega arith), at.shared))

  pub shared_less : Bump h g i → i ≤ p → PivotAt v h k p (s - 1)
  shared_less b l = stays (s - 1) (omega (arith, bump_in h g i (p + 1) b (omega arith), at.shared))

  pub shared_kept_less : Bump h g i → p < i → PivotAt v h k p s
  shared_kept_less b l = stays s (omega (arith, bump_out h g i (p + 1) b (omega arith), at.shared))

-- ---- another hash comes in, or goes: the meet stays, and the union changes at i
module _ (u v g h : ℕ → ℕ) (i k p s : ℕ) (same : Same g h) (at : PivotAt u g k p s) (under : (j : ℕ) → h j ≤ v j) where
  -- beyond the pivot
  pub above_in : Bump u v i → p < i → PivotAt v h k p s
  above_in b l = record {
    on = b.else p (omega arith) ∙ at.on;
    rank = omega (arith, bump_out u v i p b (omega arith), at.rank);
    shared = count_same g h (p + 1) same ∙ at.shared;
  }

  pub above_out : Bump v u i → p < i → PivotAt v h k p s
  above_out b l = record {
    on = sym (b.else p (omega arith)) ∙ at.on;
    rank = omega (arith, bump_out v u i p b (omega arith), at.rank);
    shared = count_same g h (p + 1) same ∙ at.shared;
  }

  -- one comes in before the pivot: the pivot moves down to the number of the union before it
  pub down_some : Bump u v i → i < p → NoneBelow v p → ⊥
  down_some b l none =
      omega (arith, bump_in u v i p b l, count_none v 0 p (omega arith) (λ j m n. none j n), count-zero v, at.rank)

  pub down : Bump u v i → i < p → (r : ℕ) → LastBelow v p r → PivotAt v h k r (s - g p)
  down b l r prev =
      let gap = count_none v (r + 1) p (omega (arith, prev.below)) (λ j m n. prev.off j (omega arith) n) in
      let none = count_none h (r + 1) p (omega (arith, prev.below)) (λ j m n. omega (arith, under j, prev.off j (omega arith) n)) in
      record {
        on = prev.on;
        rank = omega (arith, bump_in u v i p b l, count_next v r, prev.on, at.rank);
        shared = omega (arith, count_next g p, count_same g h p same, at.shared);
      }

  -- one goes before the pivot, or the pivot itself: the pivot moves up to the next number of the union
  pub up : Bump v u i → i ≤ p → (r : ℕ) → FirstFrom v (p + 1) r → PivotAt v h k r (s + h r)
  up b l r next =
      let gap = count_none v (p + 1) r next.from next.off in
      let none = count_none h (p + 1) r next.from (λ j m n. omega (arith, under j, next.off j m n)) in
      record {
        on = next.on;
        rank = omega (arith, bump_in v u i (p + 1) b (omega arith), count_next u p, at.on, at.rank);
        shared = omega (arith, count_next h r, count_same g h (p + 1) same, at.shared);
      }

  -- there is one, since a query of k numbers below n is in the union
  pub up_some : Bump v u i → i ≤ p → (q : ℕ → ℕ) (n : ℕ) → ((j : ℕ) → q j ≤ v j) → p < n → count q n ≡ k → NoneFrom v (p + 1) → ⊥
  up_some b l q n sub m full none =
      omega (arith, count-le q v n sub, count_none v (p + 1) n (omega arith) (λ j x y. none j x), bump_in v u i (p + 1) b (omega arith), count_next u p, at.on, at.rank)

-- ---- the answer is the only one
pub pivot_only : (u h : ℕ → ℕ) (k p s r t : ℕ) → PivotAt u h k p s → PivotAt u h k r t → p ≡ r
pivot_only u h k p s r t a b =
    ⊎_elim (λ (l : p < r). absurd (omega (arith, count_up u (p + 1) r (omega arith), count_next u p, a.on, a.rank, b.rank)))
    (λ (l : r ≤ p). ⊎_elim (λ (e : r ≡ p). sym e)
    (λ (m : r < p). absurd (omega (arith, count_up u (r + 1) p (omega arith), count_next u r, b.on, a.rank, b.rank))) (eq-or-lt_of_le l))
    (cases_lt p r)

pub shared_only : (u h : ℕ → ℕ) (k p s r t : ℕ) → PivotAt u h k p s → PivotAt u h k r t → s ≡ t
shared_only u h k p s r t a b = sym a.shared ∙ ap (λ (n : ℕ). count h (n + 1)) (pivot_only u h k p s r t a b) ∙ b.shared
