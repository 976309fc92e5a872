-- The laws of the state: how a count word reads, and that each case of a move on the lists is the case of the rules' move, with the bits
-- kept. The nearest set bit is the neighbour that the rules look for, since both are the only one.
use mathlib.Core.Path.{◌≡◌, refl, sym, ap, ◌∙◌, subst}
use mathlib.Core.Logic.{⊎_elim, ◌≢◌}
use mathlib.Core.Bool.{Bool, true, false}
use mathlib.Core.List.{List, [], ◌∷◌, map}
use Prim.Native.Nat.{ℕ, zero, suc, ◌+◌, ◌-◌, ◌*◌, ◌/◌, ◌%◌, ◌^◌, ◌≤◌, ◌<◌, min, max}
use native.Mathlib.Decide.{ℕ_discrete}
use native.Mathlib.Omega.{arith}
use lib.Dec.{ltb, eqb}
use lib.ListN.{length, get_or, set, length-set, length-map, get_or-map}
use lib.Seq.{get_or-set_same, get_or-set_other, map-set_same, set-get_or}
use borrow.Author.Tests.{eq-eqb, ne_eqb, eqb-true, eqb-false, lt-ltb, le-ltb}
use Rattle.base.specs.Pick.{pick}
use Rattle.base.specs.Lists.{hit}
use Rattle.base.specs.Nearest.{LastBelow, NoneBelow, FirstFrom, NoneFrom}
use Rattle.base.specs.Counting.{Same}
use Rattle.base.proofs.Lists.{hit_same, hit_other}
use Rattle.std.proofs.lemmas.Bool.{cases_lt}
use Rattle.base.proofs.Counting.{count_most, count_up, count_next}
use Rattle.base.proofs.Nearest.{last_unique, last_not_none, last_same, first_unique, first_same}
use Rattle.rules.specs.Moves.{insert_ref, delete_ref, in_query, in_union, is_shared, before, after}
use Rattle.rules.specs.Moves as moves
use Rattle.rules.specs.Ranks.{either, both, mark, has, Slid}
use Rattle.rules.proofs.Moves.{union_bit, shared_bit_lem, before_last, after_first, mark_past, has_past, mark-le, pivot_in, insert_slid, delete_slid, insert_some, insert_lost, delete_some}
use Rattle.rules.proofs.MoveCases.{state, insert_again, insert_query_low, insert_query_high, insert_other_low, insert_other_high, delete_none, delete_again, delete_query_low, delete_query_high, delete_other_low, delete_other_high}
use Rattle.summary_bits.specs.Bits.{bit_at, with_on, with_off}
use Rattle.summary_bits.specs.Summary.{Fits, Summary, raised, lowered}
use Rattle.summary_bits.proofs.Words.{on_length, on_here, on_elsewhere, off_length, off_here, off_elsewhere}
use Rattle.summary_bits.proofs.Kept.{raised-length, lowered-length, summary_set, summary_clear}
use Rattle.base.specs.declared.Slide.{Slide}
use Rattle.slide_mapper.specs.State.{flags_of, counts_of, shared_bit, slide_of, Held, Ready, Inserted, Deleted}

-- ---- how a count word reads

pub counts_at : (cs : List ℕ) (i : ℕ) → get_or (counts_of cs) i 0 ≡ get_or cs i 0 / 2
unfolding counts_of
counts_at cs i = get_or-map (λ (w : ℕ). w / 2) cs i 0

pub flags_at : (cs : List ℕ) (i : ℕ) → get_or (flags_of cs) i false ≡ eqb (get_or cs i 0 % 2) 1
unfolding flags_of
flags_at cs i = get_or-map (λ (w : ℕ). eqb (w % 2) 1) cs i 0

pub mark_at : (cs : List ℕ) (i : ℕ) → mark (flags_of cs) i ≡ get_or cs i 0 % 2
unfolding mark pick
mark_at cs i = rw (flags_at cs i) (go (eqb (get_or cs i 0 % 2) 1) refl)
  where
    go : (b : Bool) → eqb (get_or cs i 0 % 2) 1 ≡ b → pick b 1 0 ≡ get_or cs i 0 % 2
    go true e = omega (arith, eqb-true (get_or cs i 0 % 2) 1 e)
    go false e = let n = eqb-false (get_or cs i 0 % 2) 1 e in omega arith

pub has_at : (cs : List ℕ) (i : ℕ) → has (counts_of cs) i ≡ min (get_or cs i 0 / 2) 1
unfolding has
has_at cs i = rw (counts_at cs i)

pub counts_length : (cs : List ℕ) → length (counts_of cs) ≡ length cs
unfolding counts_of
counts_length cs = length-map cs (λ (w : ℕ). w / 2)

pub flags_length : (cs : List ℕ) → length (flags_of cs) ≡ length cs
unfolding flags_of
flags_length cs = length-map cs (λ (w : ℕ). eqb (w % 2) 1)

map-set : {A B : Type 0} (f : A → B) (xs : List A) (i : ℕ) (v : A) → map f (set xs i v) ≡ set (map f xs) i (f v)
map-set f [] i v = refl
map-set f (x ∷ xs) zero v = refl
map-set f (x ∷ xs) (suc i) v = rw (map-set f xs i v)

pub counts_set : (cs : List ℕ) (i v : ℕ) → counts_of (set cs i v) ≡ set (counts_of cs) i (v / 2)
unfolding counts_of
counts_set cs i v = map-set (λ (w : ℕ). w / 2) cs i v

pub flags_set : (cs : List ℕ) (i v : ℕ) → v % 2 ≡ get_or cs i 0 % 2 → flags_of (set cs i v) ≡ flags_of cs
unfolding flags_of
flags_set cs i v e = map-set_same (λ (w : ℕ). eqb (w % 2) 1) cs i v 0 (ap (λ (m : ℕ). eqb m 1) e)

-- ---- the lists after one count word changed

-- whether a word's hash is in the union
pub either_at : (cs : List ℕ) (j : ℕ) → either (mark (flags_of cs)) (has (counts_of cs)) j ≡ max (get_or cs j 0 % 2) (min (get_or cs j 0 / 2) 1)
either_at cs j = rw (mark_at cs j, has_at cs j)

pub shared_at : (cs : List ℕ) (j : ℕ) → shared_bit cs j ≡ min (get_or cs j 0 % 2) (min (get_or cs j 0 / 2) 1)
unfolding shared_bit
shared_at cs j = rw (mark_at cs j, has_at cs j)

module _ {cs ws ss : List ℕ} (k : Held cs ws ss) (i v : ℕ) (l : i < length cs) where
  in_words : i / 64 < length ws
  in_words = omega (arith, k.room)

  in_summary : i / 64 / 64 < length ss
  in_summary = omega (arith, k.room, k.fits.room)

  other : (j : ℕ) → j ≢ i → either (mark (flags_of cs)) (has (counts_of cs)) j ≡ either (mark (flags_of (set cs i v))) (has (counts_of (set cs i v))) j
  other j n = either_at cs j ∙ sym (either_at (set cs i v) j ∙ rw (get_or-set_other cs i j v 0 n))

  here : either (mark (flags_of (set cs i v))) (has (counts_of (set cs i v))) i ≡ max (v % 2) (min (v / 2) 1)
  here = either_at (set cs i v) i ∙ rw (get_or-set_same cs i v 0 l)

  bits_from : (f : ℕ → ℕ) → f i ≡ max (v % 2) (min (v / 2) 1) → ((j : ℕ) → j ≢ i → f j ≡ bit_at ws j)
      → (j : ℕ) → f j ≡ either (mark (flags_of (set cs i v))) (has (counts_of (set cs i v))) j
  bits_from f e g j = go (ℕ_discrete j i)
    where
      go : Dec (j ≡ i) → f j ≡ either (mark (flags_of (set cs i v))) (has (counts_of (set cs i v))) j
      go (yes q) = rw q (e ∙ sym here)
      go (no n) = g j n ∙ k.bits j ∙ other j n

  -- the union as it was
  pub held_level : max (v % 2) (min (v / 2) 1) ≡ max (get_or cs i 0 % 2) (min (get_or cs i 0 / 2) 1) → Held (set cs i v) ws ss
  held_level e = record {
    small = omega (arith, length-set cs i v, k.small);
    room = omega (arith, length-set cs i v, k.room);
    fits = k.fits;
    bits = bits_from (bit_at ws) (k.bits i ∙ either_at cs i ∙ sym e) (λ j n. refl);
    summary = k.summary;
  }

  -- one more in the union
  pub held_on : max (v % 2) (min (v / 2) 1) ≡ 1 → Held (set cs i v) (with_on ws i) (raised ws ss i)
  held_on e = record {
    small = omega (arith, length-set cs i v, k.small);
    room = omega (arith, length-set cs i v, on_length ws i, k.room);
    fits = record { room = omega (arith, on_length ws i, raised-length ws ss i, k.fits.room); small = omega (arith, on_length ws i, k.fits.small) };
    bits = bits_from (bit_at (with_on ws i)) (on_here ws i in_words ∙ sym e) (λ j n. on_elsewhere ws i j in_words n);
    summary = summary_set ws ss i in_words in_summary k.summary;
  }

  -- one less
  pub held_off : max (v % 2) (min (v / 2) 1) ≡ 0 → Held (set cs i v) (with_off ws i) (lowered ws ss i)
  held_off e = record {
    small = omega (arith, length-set cs i v, k.small);
    room = omega (arith, length-set cs i v, off_length ws i, k.room);
    fits = record { room = omega (arith, off_length ws i, lowered-length ws ss i, k.fits.room); small = omega (arith, off_length ws i, k.fits.small) };
    bits = bits_from (bit_at (with_off ws i)) (off_here ws i in_words ∙ sym e) (λ j n. off_elsewhere ws i j in_words n);
    summary = summary_clear ws ss i in_words in_summary k.summary;
  }

-- ---- the pivot and the shared count fit their lists

pub bit_le : (cs : List ℕ) (i : ℕ) → shared_bit cs i ≤ 1
unfolding shared_bit
bit_le cs i = omega (arith, mark-le (flags_of cs) i)

module _ {cs ws ss : List ℕ} {at : Slide} (k : Ready cs ws ss at) where
  pub pivot-lt : at.pivot.0 < length cs
  unfolding slide_of
  pivot-lt = omega (arith, pivot_in (flags_of cs) (slide_of cs at) k.slid, flags_length cs)

  pub shared_lt : at.shared ≤ 2 ^ 16
  unfolding slide_of
  shared_lt =
      omega (arith, count_most (both (mark (flags_of cs)) (has (counts_of cs))) (at.pivot.0 + 1) (λ j. omega (arith, mark-le (flags_of cs) j)), k.slid.at.shared, pivot-lt, k.held.small)

-- what a search asks of the lists
pub search_asks : {cs ws ss : List ℕ} (p : ℕ) → Held cs ws ss → p < length cs → (ws' ss' : List ℕ) → ws' ≡ ws → ss' ≡ ss → Fits ws' ss' × Summary ws' ss' × (p ≤ length ws' * 64)
search_asks p k l ws' ss' e f = rw (e, f) (k.fits, k.summary, omega (arith, k.room))

pub inserted_as : {cs ws ss : List ℕ} {at : Slide} {i : ℕ} {cs' ws' ss' ws'' ss'' : List ℕ} {r : Slide} → ws'' ≡ ws' → ss'' ≡ ss' → Inserted cs ws ss at i cs' ws' ss' r → Inserted cs ws ss at i cs' ws'' ss'' r
inserted_as {cs} {ws} {ss} {at} {i} {cs'} {ws'} {ss'} {ws''} {ss''} {r} e f m =
    subst (λ (x : List ℕ). Inserted cs ws ss at i cs' x ss'' r) (sym e) (subst (λ (x : List ℕ). Inserted cs ws ss at i cs' ws' x r) (sym f) m)

deleted_as : {cs ws ss : List ℕ} {at : Slide} {i : ℕ} {cs' ws' ss' cs'' ws'' ss'' : List ℕ} {r : Slide} → cs'' ≡ cs' → ws'' ≡ ws' → ss'' ≡ ss' → Deleted cs ws ss at i cs' ws' ss' r → Deleted cs ws ss at i cs'' ws'' ss'' r
deleted_as {cs} {ws} {ss} {at} {i} {cs'} {ws'} {ss'} {cs''} {ws''} {ss''} {r} d e f m =
    subst (λ (x : List ℕ). Deleted cs ws ss at i x ws'' ss'' r) (sym d)
    (subst (λ (x : List ℕ). Deleted cs ws ss at i cs' x ss'' r) (sym e) (subst (λ (x : List ℕ). Deleted cs ws ss at i cs' ws' x r) (sym f) m))

-- ---- insert

module _ {cs ws ss : List ℕ} {at : Slide} (k : Ready cs ws ss at) (i : ℕ) (l : i < length cs) where
  abbrev w : ℕ
  w = get_or cs i 0

  abbrev more : List ℕ
  more = set cs i (w + 2)

  more_counts : counts_of more ≡ set (counts_of cs) i (get_or (counts_of cs) i 0 + 1)
  more_counts = counts_set cs i (w + 2) ∙ ap (set (counts_of cs) i) (let e : (w + 2) / 2 ≡ get_or (counts_of cs) i 0 + 1 = omega (arith, counts_at cs i) in e)

  more_flags : flags_of more ≡ flags_of cs
  more_flags = flags_set cs i (w + 2) (omega arith)

  more_slide : (r : Slide) (p s : ℕ) → r.pivot.0 ≡ p → r.shared ≡ s → slide_of more r ≡ state (set (counts_of cs) i (get_or (counts_of cs) i 0 + 1)) p s
  unfolding slide_of
  more_slide r p s e f = rw (more_counts, e, f)

  -- the bit is set in every case
  pub more_held : Held more (with_on ws i) (raised ws ss i)
  more_held = held_on k.held i (w + 2) l (omega arith)

  pub inserted_again : 1 < w → Inserted cs ws ss at i more (with_on ws i) (raised ws ss i) at
  unfolding slide_of
  inserted_again h = record {
    counts = refl;
    slide = more_slide at at.pivot.0 at.shared refl refl ∙ sym (insert_again (flags_of cs) i (slide_of cs at) (omega (arith, counts_at cs i)));
    held = more_held;
  }

  -- a hash of the query
  module _ (one : w ≡ 1) where
    none_yet : get_or (counts_of cs) i 0 ≡ 0
    none_yet = omega (arith, counts_at cs i)

    asked : get_or (flags_of cs) i false ≡ true
    asked = flags_at cs i ∙ eq-eqb (w % 2) 1 (omega arith)

    pub inserted_query_low : i ≤ at.pivot.0 → Inserted cs ws ss at i more (with_on ws i) (raised ws ss i) (record { pivot = at.pivot; shared = at.shared + 1 })
    unfolding slide_of
    inserted_query_low h = record {
      counts = refl;
      slide = more_slide (record { pivot = at.pivot; shared = at.shared + 1 }) at.pivot.0 (at.shared + 1) refl refl ∙ sym (insert_query_low (flags_of cs) i (slide_of cs at) none_yet asked h);
      held = more_held;
    }

    inserted_query_high : at.pivot.0 < i → Inserted cs ws ss at i more (with_on ws i) (raised ws ss i) at
    unfolding slide_of
    inserted_query_high h = record {
      counts = refl;
      slide = more_slide at at.pivot.0 (at.shared + 0) refl (omega arith) ∙ sym (insert_query_high (flags_of cs) i (slide_of cs at) none_yet asked h);
      held = more_held;
    }

  -- another
  module _ (zero_word : w ≡ 0) where
    none_there : get_or (counts_of cs) i 0 ≡ 0
    none_there = omega (arith, counts_at cs i)

    unasked : get_or (flags_of cs) i false ≡ false
    unasked = flags_at cs i ∙ ne_eqb (w % 2) 1 (omega arith)

    inserted_other_high : at.pivot.0 < i → Inserted cs ws ss at i more (with_on ws i) (raised ws ss i) at
    unfolding slide_of
    inserted_other_high h = record {
      counts = refl;
      slide = more_slide at at.pivot.0 at.shared refl refl ∙ sym (insert_other_high (flags_of cs) i (slide_of cs at) none_there unasked h);
      held = more_held;
    }

    -- the union's bits are those that the rules test
    more_bits : Same (bit_at (with_on ws i)) (λ (j : ℕ). pick (in_union (flags_of cs) (set (counts_of cs) i (get_or (counts_of cs) i 0 + 1)) j) 1 0)
    more_bits j =
        union_bit (flags_of cs) (set (counts_of cs) i (get_or (counts_of cs) i 0 + 1)) j ∙
        sym (subst (λ (ms : List Bool). bit_at (with_on ws i) j ≡ either (mark ms) (has (set (counts_of cs) i (get_or (counts_of cs) i 0 + 1))) j) more_flags
        (subst (λ (ns : List ℕ). bit_at (with_on ws i) j ≡ either (mark (flags_of more)) (has ns) j) more_counts (more_held.bits j)))

    -- the nearest bit before the pivot is the rules' neighbour
    pub inserted_other_low : i ≤ at.pivot.0 → (q : ℕ) (lost : ℕ) → LastBelow (bit_at (with_on ws i)) at.pivot.0 q → lost ≡ shared_bit more at.pivot.0
        → Inserted cs ws ss at i more (with_on ws i) (raised ws ss i) (record { pivot = record { 0 = q }; shared = at.shared - lost })
    unfolding slide_of shared_bit
    inserted_other_low h q lost last e = record {
      counts = refl;
      slide =
          more_slide (record { pivot = record { 0 = q }; shared = at.shared - lost }) (before test at.pivot.0) (at.shared - pick (is_shared (flags_of cs) high at.pivot.0) 1 0)
          (last_unique there (before_last test at.pivot.0 (last_not_none there)))
          (ap (λ (n : ℕ). at.shared - n) (e ∙ same_share)) ∙ sym (insert_other_low (flags_of cs) i (slide_of cs at) none_there unasked h);
      held = more_held;
    }
      where
        high : List ℕ
        high = set (counts_of cs) i (get_or (counts_of cs) i 0 + 1)

        test : ℕ → Bool
        test = in_union (flags_of cs) high

        there : LastBelow (λ (j : ℕ). pick (test j) 1 0) at.pivot.0 q
        there = last_same (bit_at (with_on ws i)) (λ (j : ℕ). pick (test j) 1 0) at.pivot.0 q more_bits last

        same_share : min (mark (flags_of more) at.pivot.0) (has (counts_of more) at.pivot.0) ≡ pick (is_shared (flags_of cs) high at.pivot.0) 1 0
        same_share = rw (more_flags, more_counts) (sym (shared_bit_lem (flags_of cs) high at.pivot.0))

    -- there is one
    pub inserted_some : i ≤ at.pivot.0 → NoneBelow (bit_at (with_on ws i)) at.pivot.0 → ⊥
    unfolding slide_of in_query
    inserted_some h none =
        insert_some (flags_of cs) (slide_of cs at) k.slid i (omega (arith, flags_length cs)) none_there unasked h (λ j m. more_bits j ∙ none j m)

    -- and what is lost was counted
    pub inserted_lost : shared_bit more at.pivot.0 ≤ at.shared
    unfolding slide_of shared_bit in_query
    inserted_lost = rw (more_flags, more_counts) (insert_lost (flags_of cs) (slide_of cs at) k.slid i (omega (arith, flags_length cs)) none_there unasked)

  -- beyond the pivot, whatever the count
  pub inserted_high : at.pivot.0 < i → Inserted cs ws ss at i more (with_on ws i) (raised ws ss i) at
  inserted_high h =
      ⊎_elim (λ (g : 1 < w). inserted_again g)
      (λ (g : w ≤ 1). ⊎_elim (λ (z : w < 1). inserted_other_high (omega arith) h) (λ (z : 1 ≤ w). inserted_query_high (omega arith) h) (cases_lt w 1))
      (cases_lt 1 w)

-- ---- delete

module _ {cs ws ss : List ℕ} {at : Slide} (k : Ready cs ws ss at) (i : ℕ) (l : i < length cs) where
  pub deleted_none : get_or cs i 0 < 2 → Deleted cs ws ss at i cs ws ss at
  unfolding slide_of
  deleted_none h =
      let none : get_or (counts_of cs) i 0 ≡ 0 = omega (arith, counts_at cs i) in
      record {
        counts = sym (ap (set (counts_of cs) i) (let e : get_or (counts_of cs) i 0 - 1 ≡ get_or (counts_of cs) i 0 = omega arith in e) ∙ set-get_or (counts_of cs) i 0);
        flags = refl;
        slide = sym (delete_none (flags_of cs) i (slide_of cs at) none);
        held = k.held;
      }

  module _ (some : 1 < get_or cs i 0) where
    abbrev less : List ℕ
    less = set cs i (get_or cs i 0 - 2)

    abbrev low : List ℕ
    low = set (counts_of cs) i (get_or (counts_of cs) i 0 - 1)

    less_counts : counts_of less ≡ low
    less_counts = counts_set cs i (get_or cs i 0 - 2) ∙ ap (set (counts_of cs) i) (let e : (get_or cs i 0 - 2) / 2 ≡ get_or (counts_of cs) i 0 - 1 = omega (arith, counts_at cs i) in e)

    less_flags : flags_of less ≡ flags_of cs
    less_flags = flags_set cs i (get_or cs i 0 - 2) (omega arith)

    less_slide : (r : Slide) (p s : ℕ) → r.pivot.0 ≡ p → r.shared ≡ s → slide_of less r ≡ state low p s
    unfolding slide_of
    less_slide r p s e f = rw (less_counts, e, f)

    above : get_or (counts_of cs) i 0 ≢ 0
    above e = omega (arith, counts_at cs i)

    low_here : get_or low i 0 ≡ get_or cs i 0 / 2 - 1
    low_here = get_or-set_same (counts_of cs) i (get_or (counts_of cs) i 0 - 1) 0 (omega (arith, counts_length cs)) ∙ omega (arith, counts_at cs i)

    pub deleted_again : 3 < get_or cs i 0 → Deleted cs ws ss at i less ws ss at
    unfolding slide_of
    deleted_again h = record {
      counts = less_counts;
      flags = less_flags;
      slide = less_slide at at.pivot.0 at.shared refl refl ∙ sym (delete_again (flags_of cs) i (slide_of cs at) above (omega (arith, low_here)));
      held = held_level k.held i (get_or cs i 0 - 2) l (omega arith);
    }

    -- a hash of the query
    module _ (three : get_or cs i 0 ≡ 3) where
      gone : get_or low i 0 ≡ 0
      gone = omega (arith, low_here)

      asked' : get_or (flags_of cs) i false ≡ true
      asked' = flags_at cs i ∙ eq-eqb (get_or cs i 0 % 2) 1 (omega arith)

      -- its share was counted
      pub deleted_pos : i ≤ at.pivot.0 → 1 ≤ at.shared
      unfolding slide_of
      deleted_pos h =
          omega (arith, count_up (both (mark (flags_of cs)) (has (counts_of cs))) (i + 1) (at.pivot.0 + 1) (omega arith), count_next (both (mark (flags_of cs)) (has (counts_of cs))) i, mark_at cs i, has_at cs i, k.slid.at.shared)

      pub deleted_query_low : i ≤ at.pivot.0 → Deleted cs ws ss at i less ws ss (record { pivot = at.pivot; shared = at.shared - 1 })
      unfolding slide_of
      deleted_query_low h = record {
        counts = less_counts;
        flags = less_flags;
        slide = less_slide (record { pivot = at.pivot; shared = at.shared - 1 }) at.pivot.0 (at.shared - 1) refl refl ∙ sym (delete_query_low (flags_of cs) i (slide_of cs at) above gone asked' h);
        held = held_level k.held i (get_or cs i 0 - 2) l (omega arith);
      }

      pub deleted_query_high : at.pivot.0 < i → Deleted cs ws ss at i less ws ss at
      unfolding slide_of
      deleted_query_high h = record {
        counts = less_counts;
        flags = less_flags;
        slide = less_slide at at.pivot.0 (at.shared - 0) refl (omega arith) ∙ sym (delete_query_high (flags_of cs) i (slide_of cs at) above gone asked' h);
        held = held_level k.held i (get_or cs i 0 - 2) l (omega arith);
      }

    -- another
    module _ (two : get_or cs i 0 ≡ 2) where
      gone_now : get_or low i 0 ≡ 0
      gone_now = omega (arith, low_here)

      unasked' : get_or (flags_of cs) i false ≡ false
      unasked' = flags_at cs i ∙ ne_eqb (get_or cs i 0 % 2) 1 (omega arith)

      pub less_held : Held less (with_off ws i) (lowered ws ss i)
      less_held = held_off k.held i (get_or cs i 0 - 2) l (omega arith)

      pub deleted_other_high : at.pivot.0 < i → Deleted cs ws ss at i less (with_off ws i) (lowered ws ss i) at
      unfolding slide_of
      deleted_other_high h = record {
        counts = less_counts;
        flags = less_flags;
        slide = less_slide at at.pivot.0 at.shared refl refl ∙ sym (delete_other_high (flags_of cs) i (slide_of cs at) above gone_now unasked' h);
        held = less_held;
      }

      less_bits : Same (bit_at (with_off ws i)) (λ (j : ℕ). pick (in_union (flags_of cs) low j) 1 0)
      less_bits j =
          union_bit (flags_of cs) low j ∙
          sym (subst (λ (ms : List Bool). bit_at (with_off ws i) j ≡ either (mark ms) (has low) j) less_flags
          (subst (λ (ns : List ℕ). bit_at (with_off ws i) j ≡ either (mark (flags_of less)) (has ns) j) less_counts (less_held.bits j)))

      -- the nearest bit after the pivot is a coordinate
      pub deleted_in : (r : ℕ) → bit_at (with_off ws i) r ≡ 1 → r < length cs
      deleted_in r e =
          ⊎_elim (λ (x : r < length cs). x)
          (λ (x : length cs ≤ r).
          absurd (omega (arith, less_held.bits r, mark_past (flags_of less) r (omega (arith, flags_length less, length-set cs i (get_or cs i 0 - 2))), has_past (counts_of less) r (omega (arith, counts_length less, length-set cs i (get_or cs i 0 - 2))))))
          (cases_lt r (length cs))

      low-length : length low ≡ length cs
      low-length = length-set (counts_of cs) i (get_or (counts_of cs) i 0 - 1) ∙ counts_length cs

      -- and the rules' neighbour
      pub deleted_other_low : i ≤ at.pivot.0 → (q : ℕ) (won : ℕ) → FirstFrom (bit_at (with_off ws i)) (at.pivot.0 + 1) q → won ≡ shared_bit less q
          → Deleted cs ws ss at i less (with_off ws i) (lowered ws ss i) (record { pivot = record { 0 = q }; shared = at.shared + won })
      unfolding slide_of shared_bit
      deleted_other_low h q won first e = record {
        counts = less_counts;
        flags = less_flags;
        slide =
            less_slide (record { pivot = record { 0 = q }; shared = at.shared + won }) next (at.shared + pick (is_shared (flags_of cs) low next) 1 0) is_next
            (ap (λ (n : ℕ). at.shared + n) (e ∙ same_share ∙ ap (λ (n : ℕ). pick {A = ℕ} (is_shared (flags_of cs) low n) 1 0) is_next)) ∙
            sym (delete_other_low (flags_of cs) i (slide_of cs at) above gone_now unasked' h);
        held = less_held;
      }
        where
          test : ℕ → Bool
          test = in_union (flags_of cs) low

          next : ℕ
          next = after test at.pivot.0 (length low)

          there : FirstFrom (λ (j : ℕ). pick (test j) 1 0) (at.pivot.0 + 1) q
          there = first_same (bit_at (with_off ws i)) (λ (j : ℕ). pick (test j) 1 0) (at.pivot.0 + 1) q less_bits first

          is_next : q ≡ next
          is_next =
              first_unique there
              (after_first test at.pivot.0 (length low) (omega (arith, pivot-lt k, low-length))
              (λ none. omega (arith, there.on, none q there.from (omega (arith, low-length, deleted_in q first.on)))))

          same_share : min (mark (flags_of less) q) (has (counts_of less) q) ≡ pick (is_shared (flags_of cs) low q) 1 0
          same_share = rw (less_flags, less_counts) (sym (shared_bit_lem (flags_of cs) low q))

      -- there is one
      pub deleted_some : i ≤ at.pivot.0 → NoneFrom (bit_at (with_off ws i)) (at.pivot.0 + 1) → ⊥
      unfolding slide_of in_query
      deleted_some h none =
          delete_some (flags_of cs) (slide_of cs at) k.slid i (omega (arith, flags_length cs)) (omega (arith, counts_at cs i)) gone_now unasked' h (λ j m n. less_bits j ∙ none j m)

  -- what the code stores, by the numbers that it computes from the count word, is each case's
  module _ (t o : ℕ) (te : t ≡ pick (ltb (get_or cs i 0) 2) 0 2) (oe : o ≡ hit (get_or cs i 0) 2) where
    none_taken : get_or cs i 0 < 2 → t ≡ 0
    unfolding pick
    none_taken h = te ∙ rw (lt-ltb (get_or cs i 0) 2 h)

    one_taken : 1 < get_or cs i 0 → t ≡ 2
    unfolding pick
    one_taken h = te ∙ rw (le-ltb (get_or cs i 0) 2 h)

    pub took_le : t ≤ get_or cs i 0
    took_le = ⊎_elim (λ (h : get_or cs i 0 < 2). omega (arith, none_taken h)) (λ (h : 2 ≤ get_or cs i 0). omega (arith, one_taken h)) (cases_lt (get_or cs i 0) 2)

    took_none : get_or cs i 0 < 2 → set cs i (get_or cs i 0 - t) ≡ cs
    took_none h =
        let e : get_or cs i 0 - t ≡ get_or cs i 0 = omega (arith, none_taken h) in
        ap (set cs i) e ∙ set-get_or cs i 0

    pub took_one : 1 < get_or cs i 0 → set cs i (get_or cs i 0 - t) ≡ set cs i (get_or cs i 0 - 2)
    took_one h = ap (λ (n : ℕ). set cs i (get_or cs i 0 - n)) (one_taken h)

    stays : (a b : List ℕ) {xs : List ℕ} → get_or cs i 0 ≢ 2 → xs ≡ pick (eqb o 1) a b → xs ≡ b
    unfolding pick
    stays a b n e = e ∙ ap (λ (m : ℕ). pick (eqb m 1) a b) (oe ∙ hit_other (get_or cs i 0) 2 n)

    pub leaves : (a b : List ℕ) {xs : List ℕ} → get_or cs i 0 ≡ 2 → xs ≡ pick (eqb o 1) a b → xs ≡ a
    unfolding pick
    leaves a b q e = e ∙ ap (λ (m : ℕ). pick (eqb m 1) a b) (oe ∙ ap (λ (n : ℕ). hit n 2) q ∙ hit_same 2)

    module _ {ws'' ss'' : List ℕ} (we : ws'' ≡ pick (eqb o 1) (with_off ws i) ws) (se : ss'' ≡ pick (eqb o 1) (lowered ws ss i) ss) where
      kept_as : {cs' : List ℕ} {r : Slide} → set cs i (get_or cs i 0 - t) ≡ cs' → get_or cs i 0 ≢ 2 → Deleted cs ws ss at i cs' ws ss r → Deleted cs ws ss at i (set cs i (get_or cs i 0 - t)) ws'' ss'' r
      kept_as e n d = deleted_as e (stays (with_off ws i) ws n we) (stays (lowered ws ss i) ss n se) d

      pub gone_as : {r : Slide} → get_or cs i 0 ≡ 2 → Deleted cs ws ss at i (set cs i (get_or cs i 0 - 2)) (with_off ws i) (lowered ws ss i) r → Deleted cs ws ss at i (set cs i (get_or cs i 0 - t)) ws'' ss'' r
      gone_as q d = deleted_as (took_one (omega arith)) (leaves (with_off ws i) ws q we) (leaves (lowered ws ss i) ss q se) d

      pub flat_none : get_or cs i 0 < 2 → Deleted cs ws ss at i (set cs i (get_or cs i 0 - t)) ws'' ss'' at
      flat_none h = kept_as (took_none h) (omega arith) (deleted_none h)

      pub flat_again : 3 < get_or cs i 0 → Deleted cs ws ss at i (set cs i (get_or cs i 0 - t)) ws'' ss'' at
      flat_again h = kept_as (took_one (omega arith)) (omega arith) (deleted_again (omega arith) h)

      pub flat_query : get_or cs i 0 ≡ 3 → i ≤ at.pivot.0 → Deleted cs ws ss at i (set cs i (get_or cs i 0 - t)) ws'' ss'' (record { pivot = at.pivot; shared = at.shared - 1 })
      flat_query e h = kept_as (took_one (omega arith)) (omega arith) (deleted_query_low (omega arith) e h)

      -- beyond the pivot, whatever the count
      pub flat_high : at.pivot.0 < i → Deleted cs ws ss at i (set cs i (get_or cs i 0 - t)) ws'' ss'' at
      flat_high h =
          ⊎_elim (λ (a : get_or cs i 0 < 2). flat_none a)
          (λ (a : 2 ≤ get_or cs i 0).
          ⊎_elim (λ (b : get_or cs i 0 < 3). gone_as (omega arith) (deleted_other_high (omega arith) (omega arith) h))
          (λ (b : 3 ≤ get_or cs i 0).
          ⊎_elim (λ (d : 3 < get_or cs i 0). flat_again d)
          (λ (d : get_or cs i 0 ≤ 3). kept_as (took_one (omega arith)) (omega arith) (deleted_query_high (omega arith) (omega arith) h)) (cases_lt 3 (get_or cs i 0)))
          (cases_lt (get_or cs i 0) 3))
          (cases_lt (get_or cs i 0) 2)

-- ---- what a move leaves is ready for the next

pub ready_inserted : {cs ws ss : List ℕ} {at : Slide} {i : ℕ} {cs' ws' ss' : List ℕ} {r : Slide} → Ready cs ws ss at → i < length cs → Inserted cs ws ss at i cs' ws' ss' r → Ready cs' ws' ss' r
ready_inserted {cs} {ws} {ss} {at} {i} {cs'} {ws'} {ss'} {r} k l m = record {
  held = m.held;
  slid =
      subst (λ (ms : List Bool). Slid ms (slide_of cs' r)) (sym (ap flags_of m.counts ∙ flags_set cs i (get_or cs i 0 + 2) (omega arith)))
      (subst (λ (t : moves.Slide). Slid (flags_of cs) t) (sym m.slide) (insert_slid (flags_of cs) (slide_of cs at) k.slid i (omega (arith, flags_length cs))));
}

pub ready_deleted : {cs ws ss : List ℕ} {at : Slide} {i : ℕ} {cs' ws' ss' : List ℕ} {r : Slide} → Ready cs ws ss at → i < length cs → Deleted cs ws ss at i cs' ws' ss' r → Ready cs' ws' ss' r
ready_deleted {cs} {ws} {ss} {at} {i} {cs'} {ws'} {ss'} {r} k l m = record {
  held = m.held;
  slid =
      subst (λ (ms : List Bool). Slid ms (slide_of cs' r)) (sym m.flags)
      (subst (λ (t : moves.Slide). Slid (flags_of cs) t) (sym m.slide) (delete_slid (flags_of cs) (slide_of cs at) k.slid i (omega (arith, flags_length cs))));
}
