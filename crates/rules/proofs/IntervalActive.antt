-- The counts of the interval sweep as sets of hashes: where every coordinate's count is the number of intervals that are on there, the active hashes
-- are those of these intervals, because coordinates are distinct and every taken hash is one of them. Also what one step does to each count.
-- Assumes nothing.
use Prim.Native.Nat.{ℕ, ◌+◌, ◌-◌, ◌<◌}
use native.Mathlib.Omega.{arith}
use native.Mathlib.Nat.{zero-add}
use mathlib.Core.Path.{◌≡◌, refl, sym, ap, ◌∙◌}
use mathlib.Core.Logic.{⊎_elim}
use mathlib.Core.Bool.{true, false, false≢true}
use mathlib.Core.List.{List, [], ◌∷◌}
use lib.ListN.{length, get_or, length-set}
use lib.Seq.{get_or-set_same, get_or-set_other}
use lib.Dec.{ltb, leb, eqb}
use borrow.Author.Tests.{eqb-true, eqb-false, eq-eqb, ne_eqb, lt-ltb}
use Rattle.base.specs.Pick.{pick}
use Rattle.base.specs.Lists.{StrictAsc}
use Rattle.rules.specs.Lists.{member, count, filter}
use Rattle.rules.specs.Score.{number_of}
use Rattle.rules.specs.Script.{stepped, active}
use Rattle.rules.specs.Interval.{Interval, hashes_of, inserted, covers}
use Rattle.rules.proofs.Score.{cases, number_fits, number_only, member-active}
use Rattle.rules.proofs.IntervalEach.{Each}
use Rattle.rules.proofs.IntervalEvents.{coord_of, on}

-- ---- the hashes of the intervals on at p

module _ (coords : List ℕ) (strict : StrictAsc coords) (p h : ℕ) where
  on-member : member h coords ≡ true → (is : List Interval) → Each (λ i. member i.hash coords ≡ true) is → member h (hashes_of (filter (covers p) is)) ≡ ltb 0 (count (on coords p (number_of coords h)) is)
  unfolding hashes_of filter count member pick on
  on-member m [] a = refl
  on-member m (i ∷ is) a =
      ⊎_elim (λ (e : covers p i ≡ true).
      rw e
      (⊎_elim (λ (f : eqb h i.hash ≡ true). rw (f, eq-eqb (coord_of coords i) (number_of coords h) (ap (number_of coords) (sym (eqb-true h i.hash f)))) (sym (lt-ltb 0 (1 + count (on coords p (number_of coords h)) is) (omega arith))))
      (λ (f : eqb h i.hash ≡ false).
      rw (f, ne_eqb (coord_of coords i) (number_of coords h) (λ q. eqb-false h i.hash f (sym (number_only coords strict i.hash h a.0 m q)))) (rw zero-add (on-member m is a.1)))
      (cases (eqb h i.hash))))
      (λ (e : covers p i ≡ false). rw e (rw zero-add (on-member m is a.1))) (cases (covers p i))

  off_member : member h coords ≡ false → (is : List Interval) → Each (λ i. member i.hash coords ≡ true) is → member h (hashes_of (filter (covers p) is)) ≡ false
  unfolding hashes_of filter member pick
  off_member m [] a = refl
  off_member m (i ∷ is) a =
      ⊎_elim (λ (e : covers p i ≡ true). rw (e, ne_eqb h i.hash (λ q. false≢true (sym m ∙ ap (λ (g : ℕ). member g coords) q ∙ a.0))) (off_member m is a.1))
      (λ (e : covers p i ≡ false). rw e (off_member m is a.1)) (cases (covers p i))

  pub active_on : (is : List Interval) → Each (λ i. member i.hash coords ≡ true) is → (ns : List ℕ) → length ns ≡ length coords → ((c : ℕ) → c < length coords → get_or ns c 0 ≡ count (on coords p c) is) → member h (active coords ns) ≡ member h (hashes_of (filter (covers p) is))
  active_on is a ns l e =
      member-active h coords ns strict l ∙
      ⊎_elim (λ (m : member h coords ≡ true). rw (m, e (number_of coords h) (number_fits coords strict h m)) (sym (on-member m is a)))
      (λ (m : member h coords ≡ false). rw m (sym (off_member m is a))) (cases (member h coords))

-- ---- what a step does to the counts

module _ (kind i : ℕ) (ns : List ℕ) where
  pub length-stepped : length (stepped kind i ns) ≡ length ns
  unfolding stepped
  length-stepped = length-set ns i (pick (eqb kind 1) (get_or ns i 0 + 1) (get_or ns i 0 - 1))

  pub stepped_same : i < length ns → get_or (stepped kind i ns) i 0 ≡ pick (eqb kind 1) (get_or ns i 0 + 1) (get_or ns i 0 - 1)
  unfolding stepped
  stepped_same l = get_or-set_same ns i (pick (eqb kind 1) (get_or ns i 0 + 1) (get_or ns i 0 - 1)) 0 l

  pub stepped_other : (c : ℕ) → (c ≡ i → ⊥) → get_or (stepped kind i ns) c 0 ≡ get_or ns c 0
  unfolding stepped
  stepped_other c d = get_or-set_other ns i c (pick (eqb kind 1) (get_or ns i 0 + 1) (get_or ns i 0 - 1)) 0 d

pub length_inserted : (coords hs ns : List ℕ) → length (inserted coords hs ns) ≡ length ns
unfolding inserted
length_inserted coords [] ns = refl
length_inserted coords (h ∷ hs) ns = length_inserted coords hs (stepped 1 (number_of coords h) ns) ∙ length-stepped 1 (number_of coords h) ns

pub inserted_at : (coords hs ns : List ℕ) (c : ℕ) → c < length ns → get_or (inserted coords hs ns) c 0 ≡ get_or ns c 0 + count (λ h. eqb (number_of coords h) c) hs
unfolding inserted count pick
inserted_at coords [] ns c l = omega arith
inserted_at coords (h ∷ hs) ns c l =
    let more = inserted_at coords hs (stepped 1 (number_of coords h) ns) c (omega (arith, length-stepped 1 (number_of coords h) ns)) in
    ⊎_elim (λ (e : eqb (number_of coords h) c ≡ true).
    let same : number_of coords h ≡ c = eqb-true (number_of coords h) c e in
    let one : get_or (stepped 1 (number_of coords h) ns) c 0 ≡ get_or ns c 0 + 1 = rw (← same) (stepped_same 1 (number_of coords h) ns (omega arith)) in
    rw e (omega arith))
    (λ (e : eqb (number_of coords h) c ≡ false).
    let none : get_or (stepped 1 (number_of coords h) ns) c 0 ≡ get_or ns c 0 = stepped_other 1 (number_of coords h) ns c (λ q. eqb-false (number_of coords h) c e (sym q)) in
    rw e (omega arith)) (cases (eqb (number_of coords h) c))

-- the intervals that begin active are those on at range start
pub begun_on : (coords : List ℕ) (from c : ℕ) (is : List Interval) → Each (λ i. from < i.end) is → count (λ h. eqb (number_of coords h) c) (hashes_of (filter (λ (i : Interval). leb i.start from) is)) ≡ count (on coords from c) is
unfolding hashes_of filter count pick on covers
begun_on coords from c [] a = refl
begun_on coords from c (i ∷ is) a =
    ⊎_elim (λ (e : leb i.start from ≡ true). rw (e, lt-ltb from i.end a.0, begun_on coords from c is a.1))
    (λ (e : leb i.start from ≡ false). rw (e, begun_on coords from c is a.1) (omega arith)) (cases (leb i.start from))
