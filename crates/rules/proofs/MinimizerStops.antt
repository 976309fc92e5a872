-- The stops of the minimizer sweep: at a stop, b is the last item at or before p and e counts the items below p + W.
-- Both hold on at every start up to the nearer of the next item's position and the start that takes item e in, so the active items are constant between stops.
-- Assumes nothing.
use Prim.Native.Nat.{ℕ, ◌+◌, ◌≤◌, ◌<◌, min}
use mathlib.Core.Path.{◌≡◌, refl}
use mathlib.Core.Logic.{⊎_elim}
use mathlib.Core.Bool.{Bool, true, false}
use mathlib.Core.List.{List}
use native.Mathlib.Omega.{arith}
use native.Mathlib.Nat.{add-zero}
use lib.ListN.{length}
use lib.Dec.{eqb}
use borrow.Author.Tests.{lt-ltb, eqb-true, eqb-false}
use Rattle.base.specs.Pick.{pick}
use Rattle.base.specs.Lists.{StrictAsc}
use Rattle.std.proofs.lemmas.Bool.{cases_lt}
use Rattle.base.proofs.Lists.{strict_asc}
use Rattle.rules.specs.Minimizer.{Item, Stop, position, below, to_begin, to_end, first_stop, next_stop, moves}
use Rattle.rules.proofs.MinimizerPositions.{positions, below-le, below_mono, below_least, below_above, below_after}

module _ (items : List Item) (up : StrictAsc (positions items)) where
  -- an item that is not counted lies at q or beyond
  beyond : (q i : ℕ) → i < length items → below q items ≤ i → q ≤ position items i
  beyond q i l h =
      ⊎_elim (λ (c : position items i < q). absurd (omega (arith, below_above items (strict_asc (positions items) up) q i l c))) (λ c. c)
      (cases_lt (position items i) q)

  -- as long as item i is not passed
  still : (q r i : ℕ) → below q items ≡ i → q ≤ r → (i < length items → r ≤ position items i) → below r items ≡ i
  still q r i e l h =
      let m = below_mono q r items l in
      ⊎_elim (λ (a : i < length items). omega (arith, below_least items (strict_asc (positions items) up) r i a (h a))) (λ a. omega (arith, below-le r items)) (cases_lt i (length items))

  -- d on from q, item i being t on at most: it is taken in exactly when d is all of t
  advance : (q i d t r : ℕ) → i < length items → below q items ≡ i → q + t ≡ position items i + 1 → d ≤ t → r ≡ q + d → below r items ≡ i + pick (eqb d t) 1 0
  unfolding pick
  advance q i d t r l e far h is = go (eqb d t) refl
    where
      go : (u : Bool) → eqb d t ≡ u → below r items ≡ i + pick u 1 0
      go true u =
          let z : r ≡ position items i + 1 = omega (arith, eqb-true d t u) in
          rw z (below_after i items up l)
      go false u = rw add-zero (still q r i e (omega arith) λ _. omega (arith, far, eqb-false d t u))

-- b is the last item at or before p, e counts the items below p + w
pub record At (items : List Item) (w : ℕ) (t : Stop) : Type 0 where
  pub begin : below (t.p + 1) items ≡ t.b + 1
  pub end : below (t.p + w) items ≡ t.e

-- the same active items at another start
abbrev pub moved : Stop → ℕ → Stop
moved t q = record { b = t.b; e = t.e; p = q }

-- the active items are never none
pub at_some : (items : List Item) (w : ℕ) (t : Stop) → 0 < w → At items w t → t.b < t.e
at_some items w t h a = omega (arith, a.begin, a.end, below_mono (t.p + 1) (t.p + w) items (omega arith))

module _ (items : List Item) (up : StrictAsc (positions items)) (w : ℕ) (some : 0 < w) where
  pub at_first : 0 < length items → At items w (first_stop w items)
  unfolding first_stop
  at_first h = record { begin = below_after 0 items up h; end = refl }

  module _ (t : Stop) (a : At items w t) (inside : t.e < length items) where
    next_begin : t.p + 1 ≤ position items (t.b + 1)
    next_begin = beyond items up (t.p + 1) (t.b + 1) (omega (arith, at_some items w t some a)) (omega (arith, a.begin))

    next_end : t.p + w ≤ position items t.e
    next_end = beyond items up (t.p + w) t.e inside (omega (arith, a.end))

    -- both next positions lie ahead, so the sweep never stands still
    pub at_moves : moves w items t ≡ true
    unfolding moves to_begin to_end
    at_moves = lt-ltb 0 (min (to_begin items t) (to_end w items t)) (omega (arith, next_begin, next_end))

    pub at_ahead : t.p < (next_stop w items t).p
    unfolding next_stop to_begin to_end
    at_ahead = omega (arith, next_begin, next_end)

    -- the active items are constant up to the next stop
    pub at_still : (q : ℕ) → t.p ≤ q → q < (next_stop w items t).p → At items w (moved t q)
    unfolding next_stop to_begin to_end
    at_still q l m = record {
      begin = still items up (t.p + 1) (q + 1) (t.b + 1) a.begin (omega arith) λ _. omega arith;
      end = still items up (t.p + w) (q + w) t.e a.end (omega arith) λ _. omega arith;
    }

    pub at_next : At items w (next_stop w items t)
    unfolding next_stop to_begin to_end
    at_next =
        let d = min (to_begin items t) (to_end w items t) in
        let begun = advance items up (t.p + 1) (t.b + 1) d (to_begin items t) (t.p + d + 1) (omega (arith, at_some items w t some a)) a.begin (omega (arith, next_begin)) (omega arith) (omega arith) in
        record {
          begin = omega arith;
          end = advance items up (t.p + w) t.e d (to_end w items t) (t.p + d + w) inside a.end (omega (arith, next_end)) (omega arith) (omega arith);
        }
