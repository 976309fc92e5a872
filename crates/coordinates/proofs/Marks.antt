-- The query's numbers, marked in count words that are zero, are the flags of the coordinates: a coordinate is marked exactly where it is the number of a
-- query hash, and numbers tell hashes apart. Assumes nothing.
use mathlib.Core.Path.{◌≡◌, refl, sym, ap, subst, ◌∙◌}
use mathlib.Core.Logic.{⊎_elim, ◌≢◌}
use mathlib.Core.Bool.{Bool, true, false}
use mathlib.Core.List.{List, [], ◌∷◌, ◌++◌, map}
use Prim.Native.Nat.{ℕ, ◌+◌, ◌≤◌, ◌<◌}
use native.Mathlib.Numerals.{add-one}
use native.Mathlib.Omega.{arith}
use lib.Dec.{eqb}
use lib.ListN.{length, get_or, set, replicate, length-set, length-map, length-replicate, get_or-replicate, take, drop, drop_of_length-le}
use lib.Seq.{get_or-set_same, get_or-set_other, ext_get_or, drop-cons, take_at}
use borrow.Author.Tests.{eq-eqb, ne_eqb}
use Rattle.base.specs.Pick.{pick}
use Rattle.base.specs.Lists.{All, StrictAsc}
use Rattle.base.specs.Buffers.{over}
use Rattle.base.proofs.Buffers.{length_over, over_in, over_out}
use Rattle.base.proofs.Lists.{all_map, map_at, map-take}
use Rattle.std.proofs.lemmas.Bool.{cases_lt, cases_eq}
use Rattle.rules.specs.Lists.{member}
use Rattle.rules.specs.Score.{union, number_of}
use Rattle.rules.proofs.Score.{at_number, number_at, number_fits, member_all, strict_union, union_left, length_union}
use Rattle.coordinates.specs.Coordinates.{flags, numbers, marked, Numbered, Answered}

pub length_marked : (ws is : List ℕ) → length (marked ws is) ≡ length ws
unfolding marked
length_marked ws [] = refl
length_marked ws (i ∷ is) = length_marked (set ws i 1) is ∙ length-set ws i 1

pick_both : {A : Type 0} (t : Bool) (a : A) → pick t a a ≡ a
unfolding pick
pick_both true a = refl
pick_both false a = refl

pub marked_at : (ws is : List ℕ) (j : ℕ) → j < length ws → get_or (marked ws is) j 0 ≡ pick (member j is) 1 (get_or ws j 0)
unfolding marked member pick
marked_at ws [] j l = refl
marked_at ws (i ∷ is) j l =
    marked_at (set ws i 1) is j (omega (arith, length-set ws i 1))
    ∙ ⊎_elim (λ (e : j ≡ i). rw (eq-eqb j i e, e, get_or-set_same ws i 1 0 (omega arith)) (pick_both (member i is) 1))
    (λ (n : j ≢ i). rw (ne_eqb j i n, get_or-set_other ws i j 1 0 n)) (cases_eq j i)

module _ (coords : List ℕ) (strict : StrictAsc coords) where
  same_place : (h : ℕ) → member h coords ≡ true → (i : ℕ) → i < length coords → eqb i (number_of coords h) ≡ eqb (get_or coords i 0) h
  same_place h m i l =
      ⊎_elim (λ (e : i ≡ number_of coords h). eq-eqb i (number_of coords h) e ∙ sym (eq-eqb (get_or coords i 0) h (ap (λ (n : ℕ). get_or coords n 0) e ∙ at_number coords strict h m)))
      (λ (n : i ≢ number_of coords h). ne_eqb i (number_of coords h) n ∙ sym (ne_eqb (get_or coords i 0) h (λ e. n (sym (number_at coords strict i l) ∙ ap (number_of coords) e))))
      (cases_eq i (number_of coords h))

  -- a place is the number of a query hash exactly where its coordinate is one
  member_numbers : (query : List ℕ) → All (λ h. member h coords ≡ true) query → (i : ℕ) → i < length coords
      → member i (map (number_of coords) query) ≡ member (get_or coords i 0) query
  unfolding member
  member_numbers [] a i l = refl
  member_numbers (q ∷ query) a i l = rw (same_place q a.0 i l, member_numbers query a.1 i l)

  numbers_fit : (query : List ℕ) → All (λ h. member h coords ≡ true) query → All (λ i. i < length coords) (map (number_of coords) query)
  numbers_fit [] a = tt
  numbers_fit (q ∷ query) a = (number_fits coords strict q a.0, numbers_fit query a.1)

  -- past the coordinates no place is a number
  member_past : (is : List ℕ) → All (λ i. i < length coords) is → (j : ℕ) → length coords ≤ j → member j is ≡ false
  unfolding member
  member_past [] a j l = refl
  member_past (i ∷ is) a j l = rw (ne_eqb j i (λ e. omega arith)) (member_past is a.1 j l)

  marked_flags : (query : List ℕ) → All (λ h. member h coords ≡ true) query → (m : ℕ) → length coords ≤ m
      → marked (replicate m 0) (map (number_of coords) query) ≡ over (flags query coords) (replicate m 0)
  unfolding flags pick
  marked_flags query a m l =
      let zs : List ℕ = replicate m 0 in
      let fs : List ℕ = flags query coords in
      let is : List ℕ = map (number_of coords) query in
      let long : length zs ≡ m = length-replicate {A = ℕ} m 0 in
      let many : length fs ≡ length coords = length-map coords (λ c. pick (member c query) 1 0) in
      let same : length (marked zs is) ≡ length zs = length_marked zs is in
      ext_get_or 0 (marked zs is) (over fs zs) (same ∙ sym (length_over fs zs (omega arith)))
      (λ i h.
      marked_at zs is i (omega arith)
      ∙ ⊎_elim
      (λ (b : i < length coords).
      rw (member_numbers query a i b, get_or-replicate {A = ℕ} m i 0 0 (omega arith)) (sym (over_in fs zs 0 i (omega arith) ∙ map_at (λ c. pick (member c query) 1 0) coords i 0 0 b)))
      (λ (b : length coords ≤ i). rw (member_past is (numbers_fit query a) i b) (sym (over_out fs zs 0 i (omega arith)))) (cases_lt i (length coords)))

-- the call: the query's numbers stand first

module _ (query hashes : List ℕ) {coords : List ℕ} {r : ℕ} (n : Numbered query hashes coords r) where
  query_numbers : take (length query) coords ≡ map (number_of (union query hashes)) query
  unfolding numbers
  query_numbers =
      let f = number_of (union query hashes) in
      ap (take (length query)) n.are ∙ sym (map-take f (length query) (query ++ hashes)) ∙ ap (map f) (take_at query hashes (length query) refl)

  query_in : All (λ h. member h (union query hashes) ≡ true) query
  query_in = member_all (λ h. member h (union query hashes) ≡ true) query (λ h m. union_left h query hashes m)

  pub query_fits : {counts : List ℕ} → counts ≡ replicate (length query + length hashes) 0 → All (λ i. i < length counts) (take (length query) coords)
  query_fits {counts} e =
      let long : length counts ≡ length query + length hashes = ap length e ∙ length-replicate {A = ℕ} (length query + length hashes) 0 in
      subst (All (λ i. i < length counts)) (sym query_numbers)
      (all_map (λ i. i < length (union query hashes)) (λ i. i < length counts) (λ i l. omega (arith, length_union query hashes)) (map (number_of (union query hashes)) query)
      (numbers_fit (union query hashes) (strict_union query hashes) query query_in))

  pub query_marked : {entry counts : List ℕ} → entry ≡ replicate (length query + length hashes) 0 → counts ≡ marked entry (take (length query) coords) → Answered query hashes entry counts coords r
  query_marked {entry} {counts} e f = record {
    numbered = n;
    marks =
        f ∙ ap (marked entry) query_numbers ∙ ap (λ (zs : List ℕ). marked zs (map (number_of (union query hashes)) query)) e
        ∙ marked_flags (union query hashes) (strict_union query hashes) query query_in (length query + length hashes) (length_union query hashes)
        ∙ ap (over (flags query (union query hashes))) (sym e);
  }

-- A loop that marks one place in each turn: what is left to mark makes of the words now what all places make of the words at entry.
pub record Marking (entry is ws : List ℕ) (j : ℕ) : Type 0 where
  pub upto : j ≤ length is
  pub kept : length ws ≡ length entry
  pub rest : marked ws (drop j is) ≡ marked entry is

module _ {entry is ws : List ℕ} {j : ℕ} (m : Marking entry is ws j) where
  pub marking_step : j < length is → Marking entry is (set ws (get_or is j 0) 1) (j + 1)
  unfolding marked
  marking_step l = record {
    upto = omega arith;
    kept = length-set ws (get_or is j 0) 1 ∙ m.kept;
    rest = rw (add-one j) (sym (ap (marked ws) (drop-cons is j 0 l)) ∙ m.rest);
  }

  pub marking_end : length is ≤ j → ws ≡ marked entry is
  unfolding marked
  marking_end l = sym (ap (marked ws) (drop_of_length-le is l)) ∙ m.rest
