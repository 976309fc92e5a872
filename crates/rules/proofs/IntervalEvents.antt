-- The events of the interval sweep, counted. Of the keys beyond a place, each taken interval gives an insert where it starts beyond it and a delete
-- where it ends beyond it (one that ends after range end has no key and is counted apart); so the two counts differ by the intervals on at that place.
-- Assumes nothing.
use Prim.Native.Nat.{ℕ, ◌+◌, ◌*◌, ◌≤◌, ◌<◌, min, max}
use native.Mathlib.Omega.{arith}
use mathlib.Core.Path.{◌≡◌, refl, sym, ap, ◌∙◌}
use mathlib.Core.Logic.{⊎_elim}
use mathlib.Core.Bool.{Bool, true, false, ◌||◌, ◌&&◌, not, and-eq-true_iff, and-true, and-false, or-true}
use mathlib.Core.List.{List, [], ◌∷◌, ◌++◌, map, flatten}
use lib.ListN.{length}
use lib.Dec.{ltb, leb, eqb}
use borrow.Author.Tests.{ltb-true, ltb-false, leb-true, lt-ltb, le-ltb, le-leb, lt-leb}
use Rattle.base.specs.Pick.{pick}
use Rattle.base.specs.Lists.{All, Asc}
use Rattle.base.specs.Sort.{insert, sort_of}
use Rattle.base.proofs.Lists.{all_append}
use Rattle.std.proofs.lemmas.Bool.{cases_lt}
use Rattle.base.proofs.Sort.{all_sort, asc_sort}
use Rattle.rules.specs.Lists.{count}
use Rattle.rules.specs.Score.{number_of}
use Rattle.rules.specs.Sweep.{Sweep}
use Rattle.rules.specs.Interval.{Interval, event_key, event_at, event_kind, event_coord, events_of, events, taken, coords_of, covers}
use Rattle.rules.proofs.IntervalEach.{Each}
use Rattle.rules.proofs.Score.{cases, count-append}

-- ---- the parts of a key

module _ (at kind coord : ℕ) (k : kind < 2) (c : coord < 65536) where
  pub at_key : event_at (event_key at kind coord) ≡ at
  unfolding event_at event_key
  at_key = omega arith

  pub kind_key : event_kind (event_key at kind coord) ≡ kind
  unfolding event_kind event_key
  kind_key = omega arith

  pub coord_key : event_coord (event_key at kind coord) ≡ coord
  unfolding event_coord event_key
  coord_key = omega arith

-- the last key that an event at p could have
abbrev pub last_key : ℕ → ℕ
last_key p = p * 131072 + 131071

pub at_mono : (j k : ℕ) → j ≤ k → event_at j ≤ event_at k
unfolding event_at
at_mono j k l = omega arith

pub past_last : (p k : ℕ) → p < event_at k → last_key p < k
unfolding event_at
past_last p k l = omega arith

pub to_last : (p k : ℕ) → event_at k ≤ p → k ≤ last_key p
unfolding event_at
to_last p k l = omega arith

pub key_order : (a b coord : ℕ) → a < b → event_key a 1 coord < event_key b 0 coord
unfolding event_key
key_order a b coord l = omega arith

beyond : (p at kind coord : ℕ) → kind < 2 → coord < 65536 → ltb (last_key p) (event_key at kind coord) ≡ ltb p at
unfolding event_key
beyond p at kind coord k c =
    ⊎_elim (λ (l : p < at). lt-ltb (last_key p) (event_key at kind coord) (omega arith) ∙ sym (lt-ltb p at l))
    (λ (l : at ≤ p). le-ltb (last_key p) (event_key at kind coord) (omega arith) ∙ sym (le-ltb p at l)) (cases_lt p at)

-- ---- counting

count_two : (t : ℕ → Bool) (x y : ℕ) → pick (t (min x y)) 1 0 + pick (t (max x y)) 1 0 ≡ pick (t x) 1 0 + pick (t y) 1 0
count_two t x y =
    ⊎_elim (λ (l : x < y). let lo : min x y ≡ x = omega arith in let hi : max x y ≡ y = omega arith in rw (lo, hi))
    (λ (l : y ≤ x). let lo : min x y ≡ y = omega arith in let hi : max x y ≡ x = omega arith in rw (lo, hi) (omega arith)) (cases_lt x y)

count-insert : (t : ℕ → Bool) (x : ℕ) (xs : List ℕ) → count t (insert x xs) ≡ pick (t x) 1 0 + count t xs
unfolding insert count
count-insert t x [] = refl
count-insert t x (y ∷ xs) = omega (arith, count-insert t (max x y) xs, count_two t x y)

pub count_sort : (t : ℕ → Bool) (xs : List ℕ) → count t (sort_of xs) ≡ count t xs
unfolding sort_of count
count_sort t [] = refl
count_sort t (x ∷ xs) = count-insert t x (sort_of xs) ∙ ap (λ (n : ℕ). pick (t x) 1 0 + n) (count_sort t xs)

-- ---- keys beyond a place

unfoldable pub later : ℕ → (ℕ → Bool) → ℕ → Bool
later place t k = ltb place k && t k

pub later_skip : (place : ℕ) (t : ℕ → Bool) (k : ℕ) (ks : List ℕ) → k ≤ place → count (later place t) (k ∷ ks) ≡ count (later place t) ks
unfolding count later pick
later_skip place t k ks l = rw (le-ltb place k l) (omega arith)

pub later_all : (place : ℕ) (t : ℕ → Bool) (ks : List ℕ) → All (λ k. place < k) ks → count (later place t) ks ≡ count t ks
unfolding count later
later_all place t [] a = refl
later_all place t (k ∷ ks) a = rw (lt-ltb place k a.0, later_all place t ks a.1)

pub later_most : (place : ℕ) (t : ℕ → Bool) (ks : List ℕ) → count (later place t) ks ≤ count t ks
unfolding count later pick
later_most place t [] = omega arith
later_most place t (k ∷ ks) =
    ⊎_elim (λ (e : ltb place k ≡ true). rw e (omega (arith, later_most place t ks))) (λ (e : ltb place k ≡ false). rw e (omega (arith, later_most place t ks)))
    (cases (ltb place k))

-- inserts, and deletes, of the coordinate c
unfoldable pub inserts : ℕ → ℕ → Bool
inserts c k = eqb (event_kind k) 1 && eqb (event_coord k) c

unfoldable pub deletes : ℕ → ℕ → Bool
deletes c k = not (eqb (event_kind k) 1) && eqb (event_coord k) c

-- ---- one interval's events

two_events : (t : ℕ → Bool) (a b : Bool) (k l : ℕ) → count t (pick a (k ∷ []) [] ++ pick b (l ∷ []) []) ≡ pick (a && t k) 1 0 + pick (b && t l) 1 0
unfolding count pick
two_events t true true k l = omega arith
two_events t true false k l = omega arith
two_events t false true k l = omega arith
two_events t false false k l = omega arith

abbrev pub coord_of : List ℕ → Interval → ℕ
coord_of coords i = number_of coords i.hash

-- later starts, and ends after range start, up to range end
abbrev pub starts_later : Sweep → Interval → Bool
starts_later s i = ltb s.range.start i.start && leb i.start s.range.end

abbrev pub ends_later : Sweep → Interval → Bool
ends_later s i = ltb s.range.start i.end && leb i.end s.range.end

-- and their keys
abbrev pub insert_key : List ℕ → Interval → ℕ
insert_key coords i = event_key i.start 1 (coord_of coords i)

abbrev pub delete_key : List ℕ → Interval → ℕ
delete_key coords i = event_key i.end 0 (coord_of coords i)

-- what the sweep knows of a taken interval that ends after it starts
pub record Good (s : Sweep) (coords : List ℕ) (i : Interval) : Type 0 where
  pub begins : i.start ≤ s.range.end
  pub lasts : s.range.start < i.end
  pub forward : i.start < i.end
  pub fits : coord_of coords i < length coords

-- on at p, and on at range end, with the coordinate c
unfoldable pub on : List ℕ → ℕ → ℕ → Interval → Bool
on coords p c i = covers p i && eqb (coord_of coords i) c

unfoldable pub stays : Sweep → List ℕ → ℕ → Interval → Bool
stays s coords c i = ltb s.range.end i.end && eqb (coord_of coords i) c

pick-and : (a b : Bool) → pick (a && b) 1 0 ≤ pick b 1 0
unfolding pick
pick-and true b = omega arith
pick-and false b = omega arith

module _ (place c at d : ℕ) (l : d < 65536) where
  insert_inserts : later place (inserts c) (event_key at 1 d) ≡ (ltb place (event_key at 1 d) && eqb d c)
  unfolding later inserts
  insert_inserts = rw (kind_key at 1 d (omega arith) l, coord_key at 1 d (omega arith) l)

  insert_deletes : later place (deletes c) (event_key at 1 d) ≡ false
  unfolding later deletes
  insert_deletes = rw (kind_key at 1 d (omega arith) l) (and-false (ltb place (event_key at 1 d)))

  delete_inserts : later place (inserts c) (event_key at 0 d) ≡ false
  unfolding later inserts
  delete_inserts = rw (kind_key at 0 d (omega arith) l) (and-false (ltb place (event_key at 0 d)))

  delete_deletes : later place (deletes c) (event_key at 0 d) ≡ (ltb place (event_key at 0 d) && eqb d c)
  unfolding later deletes
  delete_deletes = rw (kind_key at 0 d (omega arith) l, coord_key at 0 d (omega arith) l)

module _ (s : Sweep) (coords : List ℕ) (small : length coords ≤ 65536) (c : ℕ) (i : Interval) (g : Good s coords i) where
  narrow : coord_of coords i < 65536
  narrow = omega (arith, g.fits)

  module _ (place : ℕ) where
    one_insert : count (later place (inserts c)) (events_of s coords i) ≡ pick (ltb s.range.start i.start && (ltb place (insert_key coords i) && eqb (coord_of coords i) c)) 1 0
    unfolding events_of pick
    one_insert =
        two_events (later place (inserts c)) (starts_later s i)
        (ends_later s i) (insert_key coords i) (delete_key coords i) ∙
        rw (insert_inserts place c i.start (coord_of coords i) narrow, delete_inserts place c i.end (coord_of coords i) narrow, le-leb i.start s.range.end g.begins, and-true, and-false)
        (omega arith)

    one_delete : pick (stays s coords c i) 1 0 + count (later place (deletes c)) (events_of s coords i) ≡ pick ((ltb s.range.end i.end || ltb place (delete_key coords i)) && eqb (coord_of coords i) c) 1 0
    unfolding events_of stays pick
    one_delete =
        ap (λ (n : ℕ). pick (stays s coords c i) 1 0 + n)
        (two_events (later place (deletes c)) (starts_later s i)
        (ends_later s i) (insert_key coords i) (delete_key coords i)) ∙
        rw (insert_deletes place c i.start (coord_of coords i) narrow, delete_deletes place c i.end (coord_of coords i) narrow, and-false, lt-ltb s.range.start i.end g.lasts)
        (⊎_elim (λ (e : ltb s.range.end i.end ≡ true). rw (e, lt-leb i.end s.range.end (ltb-true s.range.end i.end e)) (omega arith))
        (λ (e : ltb s.range.end i.end ≡ false). rw (e, le-leb i.end s.range.end (ltb-false s.range.end i.end e)) (omega arith))
        (cases (ltb s.range.end i.end)))

    -- an insert beyond the place has its delete beyond it
    one_balance : count (later place (inserts c)) (events_of s coords i) ≤ pick (stays s coords c i) 1 0 + count (later place (deletes c)) (events_of s coords i)
    unfolding pick
    one_balance = rw (one_insert, one_delete)
        (⊎_elim (λ (e : ltb place (insert_key coords i) ≡ true). rw (e, lt-ltb place (delete_key coords i) (below e), or-true) (pick-and (ltb s.range.start i.start) (eqb (coord_of coords i) c)))
        (λ (e : ltb place (insert_key coords i) ≡ false). rw (e, and-false) (omega arith))
        (cases (ltb place (insert_key coords i))))
      where
        below : ltb place (insert_key coords i) ≡ true → place < delete_key coords i
        below e = omega (arith, ltb-true place (insert_key coords i) e, key_order i.start i.end (coord_of coords i) g.forward)

  -- beyond the last key of p, the intervals on at p make the difference
  one_cover : (p : ℕ) → s.range.start ≤ p → p ≤ s.range.end → pick (on coords p c i) 1 0 + count (later (last_key p) (inserts c)) (events_of s coords i) ≡ pick (stays s coords c i) 1 0 + count (later (last_key p) (deletes c)) (events_of s coords i)
  unfolding pick on covers
  one_cover p lo hi = rw (one_insert (last_key p), one_delete (last_key p), beyond p i.start 1 (coord_of coords i) (omega arith) narrow, beyond p i.end 0 (coord_of coords i) (omega arith) narrow)
      (⊎_elim (λ (l : p < i.start). rw (lt-leb i.start p l, lt-ltb p i.start l, lt-ltb s.range.start i.start (omega arith), lt-ltb p i.end (omega (arith, g.forward)), or-true) (omega arith))
      (λ (l : i.start ≤ p). rw (le-leb i.start p l, le-ltb p i.start l, and-false)
      (⊎_elim (λ (m : p < i.end). rw (lt-ltb p i.end m, or-true) (omega arith))
      (λ (m : i.end ≤ p). rw (le-ltb p i.end m, le-ltb s.range.end i.end (omega arith)) (omega arith)) (cases_lt p i.end))) (cases_lt p i.start))

-- ---- all events

-- what the sweep knows of a key
pub record Key (s : Sweep) (coords : List ℕ) (k : ℕ) : Type 0 where
  pub after : s.range.start < event_at k
  pub within : event_at k ≤ s.range.end
  pub fits : event_coord k < length coords

all_pick : (P : ℕ → Type 0) (t : Bool) (k : ℕ) → (t ≡ true → P k) → All P (pick t (k ∷ []) [])
unfolding pick
all_pick P true k f = (f refl, tt)
all_pick P false k f = tt

abbrev unsorted : Sweep → List ℕ → List Interval → List ℕ
unsorted s coords is = flatten (map (events_of s coords) is)

module _ (s : Sweep) (coords : List ℕ) (small : length coords ≤ 65536) where
  a_key : (i : Interval) → Good s coords i → (at kind : ℕ) → kind < 2 → (ltb s.range.start at && leb at s.range.end) ≡ true → Key s coords (event_key at kind (coord_of coords i))
  a_key i g at kind k e =
      let l : coord_of coords i < 65536 = omega (arith, g.fits) in
      record {
        after = rw (at_key at kind (coord_of coords i) k l) (ltb-true s.range.start at ((and-eq-true_iff (ltb s.range.start at) (leb at s.range.end)).0 e).0);
        within = rw (at_key at kind (coord_of coords i) k l) (leb-true at s.range.end ((and-eq-true_iff (ltb s.range.start at) (leb at s.range.end)).0 e).1);
        fits = rw (coord_key at kind (coord_of coords i) k l) g.fits;
      }

  one_keys : (i : Interval) → Good s coords i → All (Key s coords) (events_of s coords i)
  unfolding events_of
  one_keys i g =
      all_append (Key s coords) (pick (starts_later s i) (insert_key coords i ∷ []) [])
      (pick (ends_later s i) (delete_key coords i ∷ []) [])
      (all_pick (Key s coords) (starts_later s i) (insert_key coords i) (λ e. a_key i g i.start 1 (omega arith) e))
      (all_pick (Key s coords) (ends_later s i) (delete_key coords i) (λ e. a_key i g i.end 0 (omega arith) e))

  all_keys : (is : List Interval) → Each (Good s coords) is → All (Key s coords) (unsorted s coords is)
  unfolding flatten
  all_keys [] a = tt
  all_keys (i ∷ is) a = all_append (Key s coords) (events_of s coords i) (unsorted s coords is) (one_keys i a.0) (all_keys is a.1)

  all_balance : (c place : ℕ) (is : List Interval) → Each (Good s coords) is → count (later place (inserts c)) (unsorted s coords is) ≤ count (stays s coords c) is + count (later place (deletes c)) (unsorted s coords is)
  unfolding flatten count
  all_balance c place [] a = omega arith
  all_balance c place (i ∷ is) a =
      omega (arith, count-append (later place (inserts c)) (events_of s coords i) (unsorted s coords is), count-append (later place (deletes c)) (events_of s coords i) (unsorted s coords is), one_balance s coords small c i a.0 place, all_balance c place is a.1)

  all_cover : (c p : ℕ) → s.range.start ≤ p → p ≤ s.range.end → (is : List Interval) → Each (Good s coords) is → count (on coords p c) is + count (later (last_key p) (inserts c)) (unsorted s coords is) ≡ count (stays s coords c) is + count (later (last_key p) (deletes c)) (unsorted s coords is)
  unfolding flatten count
  all_cover c p lo hi [] a = omega arith
  all_cover c p lo hi (i ∷ is) a =
      omega (arith, count-append (later (last_key p) (inserts c)) (events_of s coords i) (unsorted s coords is), count-append (later (last_key p) (deletes c)) (events_of s coords i) (unsorted s coords is), one_cover s coords small c i a.0 p lo hi, all_cover c p lo hi is a.1)

module _ (s : Sweep) (small : length (coords_of s) ≤ 65536) (good : Each (Good s (coords_of s)) (taken s)) where
  pub event_keys : All (Key s (coords_of s)) (events s)
  unfolding events
  event_keys = all_sort (Key s (coords_of s)) (unsorted s (coords_of s) (taken s)) (all_keys s (coords_of s) small (taken s) good)

  pub event_order : Asc (events s)
  unfolding events
  event_order = asc_sort (unsorted s (coords_of s) (taken s))

  module _ (c : ℕ) where
    pub event_balance : (place : ℕ) → count (later place (inserts c)) (events s) ≤ count (stays s (coords_of s) c) (taken s) + count (later place (deletes c)) (events s)
    unfolding events
    event_balance place =
        omega (arith, count_sort (later place (inserts c)) (unsorted s (coords_of s) (taken s)), count_sort (later place (deletes c)) (unsorted s (coords_of s) (taken s)), all_balance s (coords_of s) small c place (taken s) good)

    pub event_cover : (p : ℕ) → s.range.start ≤ p → p ≤ s.range.end → count (on (coords_of s) p c) (taken s) + count (later (last_key p) (inserts c)) (events s) ≡ count (stays s (coords_of s) c) (taken s) + count (later (last_key p) (deletes c)) (events s)
    unfolding events
    event_cover p lo hi =
        omega (arith, count_sort (later (last_key p) (inserts c)) (unsorted s (coords_of s) (taken s)), count_sort (later (last_key p) (deletes c)) (unsorted s (coords_of s) (taken s)), all_cover s (coords_of s) small c p lo hi (taken s) good)
