-- What the lists of a part tell of the rules' sweep: its taken intervals, their coordinate numbers, their events of each kind, and which begin active: the first, since
-- starts ascend and each taken interval that does not begin active has a start key. Assumes nothing.
use mathlib.Core.Path.{◌≡◌, refl, sym, ap, subst, ◌∙◌}
use mathlib.Core.Logic.{⊎_elim}
use mathlib.Core.Bool.{Bool, true, false, ◌&&◌}
use mathlib.Core.List.{List, [], ◌∷◌, map}
use Prim.Native.Nat.{ℕ, zero, suc, ◌-◌, ◌≤◌, ◌<◌}
use native.Mathlib.Omega.{arith}
use lib.Dec.{ltb, leb}
use lib.ListN.{length, take, length-map}
use borrow.Author.Tests.{lt-ltb, le-ltb, le-leb, lt-leb}
use Rattle.base.specs.Pick.{pick}
use Rattle.base.specs.Lists.{All, Asc, StrictAsc}
use Rattle.base.proofs.Lists.{all_map}
use Rattle.std.proofs.lemmas.Bool.{cases_lt}
use Rattle.rules.specs.Lists.{filter}
use Rattle.rules.specs.Score.{union, number_of}
use Rattle.rules.specs.Script.{stepped, no_counts}
use Rattle.rules.specs.Moves.{marks}
use Rattle.rules.specs.Sweep.{Sweep}
use Rattle.rules.specs.Interval.{Interval, intervals_of, taken, hashes_of, coords_of, event_key, inserted, beginning}
use Rattle.rules.proofs.Score.{cases, length-filter}
use Rattle.rules.proofs.IntervalEvents.{coord_of, starts_later}
use Rattle.rules.proofs.IntervalKeys.{insert_keys, delete_keys}
use Rattle.rules.proofs.IntervalTaken.{starts_of, starts_are}
use Rattle.slide_mapper.specs.State.{flags_of, counts_of}
use Rattle.slide_mapper.proofs.Marked.{ones_flags, ones_counts}
use Rattle.coordinates.specs.Coordinates.{flags}
use Rattle.interval_events.specs.declared.intervals.Intervals.{Intervals}
use Rattle.interval_events.specs.Spans.{raised}
use Rattle.interval_events.specs.Events.{kept, keys_of}
use Rattle.interval_work.specs.Work.{start_keys, end_keys, Tells, Part}
use Rattle.interval_work.proofs.Beginning.{all_kept, asc_kept}

-- ---- the lists of the taken intervals

abbrev lasts : ℕ → Interval → Bool
lasts from i = ltb from i.end

abbrev ends_of : List Interval → List ℕ
ends_of is = map (λ (i : Interval). i.end) is

kept_map : (f : Interval → ℕ) (from : ℕ) (is : List Interval) → kept from (ends_of is) (map f is) ≡ map f (filter (lasts from) is)
unfolding kept filter pick
kept_map f from [] = refl
kept_map f from (i ∷ is) = ⊎_elim (λ (e : ltb from i.end ≡ true). rw e (ap (λ (xs : List ℕ). f i ∷ xs) (kept_map f from is))) (λ (e : ltb from i.end ≡ false). rw e (kept_map f from is)) (cases (ltb from i.end))

hashes_are : (hs ss es : List ℕ) → length ss ≡ length hs → length es ≡ length hs → hashes_of (intervals_of hs ss es) ≡ hs
unfolding intervals_of hashes_of
hashes_are [] ss es l m = refl
hashes_are (h ∷ hs) [] es l m = absurd (omega arith)
hashes_are (h ∷ hs) (p ∷ ss) [] l m = absurd (omega arith)
hashes_are (h ∷ hs) (p ∷ ss) (e ∷ es) l m = ap (λ (xs : List ℕ). h ∷ xs) (hashes_are hs ss es (omega arith) (omega arith))

ends_are : (hs ss es : List ℕ) → length ss ≡ length hs → length es ≡ length hs → ends_of (intervals_of hs ss es) ≡ es
unfolding intervals_of
ends_are [] ss [] l m = refl
ends_are [] ss (e ∷ es) l m = absurd (omega arith)
ends_are (h ∷ hs) [] es l m = absurd (omega arith)
ends_are (h ∷ hs) (p ∷ ss) [] l m = absurd (omega arith)
ends_are (h ∷ hs) (p ∷ ss) (e ∷ es) l m = ap (λ (xs : List ℕ). e ∷ xs) (ends_are hs ss es (omega arith) (omega arith))

module _ (from : ℕ) (hs ss es : List ℕ) (l : length ss ≡ length hs) (m : length es ≡ length hs) where
  abbrev tk : List Interval
  tk = filter (lasts from) (intervals_of hs ss es)

  pub kept_hashes : kept from es hs ≡ hashes_of tk
  unfolding hashes_of
  kept_hashes =
      ap (λ (xs : List ℕ). kept from xs hs) (sym (ends_are hs ss es l m)) ∙ ap (kept from (ends_of (intervals_of hs ss es))) (sym (hashes_are hs ss es l m)) ∙ kept_map (λ i. i.hash) from (intervals_of hs ss es)

  pub kept_starts : kept from es ss ≡ starts_of tk
  kept_starts =
      ap (λ (xs : List ℕ). kept from xs ss) (sym (ends_are hs ss es l m)) ∙ ap (kept from (ends_of (intervals_of hs ss es))) (sym (starts_are hs ss es l m)) ∙ kept_map (λ i. i.start) from (intervals_of hs ss es)

  pub kept_ends : kept from es es ≡ ends_of tk
  kept_ends =
      ap (λ (xs : List ℕ). kept from xs es) (sym (ends_are hs ss es l m)) ∙ ap (kept from (ends_of (intervals_of hs ss es))) (sym (ends_are hs ss es l m)) ∙ kept_map (λ i. i.end) from (intervals_of hs ss es)

-- ---- their keys

keys_map : (kind from to : ℕ) (f g : Interval → ℕ) (is : List Interval) → keys_of kind from to (map f is) (map g is) ≡ map (λ (i : Interval). event_key (f i) kind (g i)) (filter (λ i. ltb from (f i) && leb (f i) to) is)
unfolding keys_of filter pick
keys_map kind from to f g [] = refl
keys_map kind from to f g (i ∷ is) =
    ⊎_elim (λ (e : (ltb from (f i) && leb (f i) to) ≡ true). rw e (ap (λ (xs : List ℕ). event_key (f i) kind (g i) ∷ xs) (keys_map kind from to f g is)))
    (λ (e : (ltb from (f i) && leb (f i) to) ≡ false). rw e (keys_map kind from to f g is)) (cases (ltb from (f i) && leb (f i) to))

-- ---- which begin active

module _ (from to : ℕ) where
  abbrev later : Interval → Bool
  later i = ltb from i.start && leb i.start to

  abbrev begins : Interval → Bool
  begins i = leb i.start from

  all_later : (is : List Interval) → All (λ p. from < p) (starts_of is) → All (λ p. p ≤ to) (starts_of is) → (filter begins is ≡ []) × (length (filter later is) ≡ length is)
  unfolding filter pick
  all_later [] a b = (refl, refl)
  all_later (i ∷ is) a b =
      let r = all_later is a.1 b.1 in
      rw (lt-leb i.start from a.0, lt-ltb from i.start a.0, le-leb i.start to b.0) (r.0, ap suc r.1)

  begin_first : (is : List Interval) → Asc (starts_of is) → All (λ p. p ≤ to) (starts_of is) → filter begins is ≡ take (length is - length (filter later is)) is
  unfolding filter pick
  begin_first [] r b = refl
  begin_first (i ∷ is) r b =
      ⊎_elim (λ (l : from < i.start).
      let h = all_later is (all_map (λ p. i.start ≤ p) (λ p. from < p) (λ p m. omega arith) (starts_of is) r.0) b.1 in
      let none : suc (length is) - suc (length (filter later is)) ≡ 0 = omega (arith, h.1) in
      rw (lt-leb i.start from l, lt-ltb from i.start l, le-leb i.start to b.0, none) h.0)
      (λ (l : i.start ≤ from).
      let more : suc (length is) - length (filter later is) ≡ suc (length is - length (filter later is)) = omega (arith, length-filter later is) in
      rw (le-leb i.start from l, le-ltb from i.start l, more) (ap (λ (xs : List Interval). i ∷ xs) (begin_first is r.1 b.1))) (cases_lt from i.start)

inserted-raised : (coords hs counts : List ℕ) → inserted coords hs counts ≡ raised (map (number_of coords) hs) counts
unfolding inserted raised
inserted-raised coords [] counts = refl
inserted-raised coords (h ∷ hs) counts = inserted-raised coords hs (stepped 1 (number_of coords h) counts)

map-take : {A : Type 0} (f : A → ℕ) (n : ℕ) (xs : List A) → map f (take n xs) ≡ take n (map f xs)
map-take f zero xs = refl
map-take f (suc n) [] = refl
map-take f (suc n) (x ∷ xs) = ap (λ (ys : List ℕ). f x ∷ ys) (map-take f n xs)

map-map : (f : ℕ → ℕ) (g : Interval → ℕ) (is : List Interval) → map f (map g is) ≡ map (λ i. f (g i)) is
map-map f g [] = refl
map-map f g (i ∷ is) = ap (λ (ys : List ℕ). f (g i) ∷ ys) (map-map f g is)

-- ---- the sweep that is told

module _ {s : Sweep} {query : List ℕ} {xs : Intervals} {from to : ℕ} (k : Part s query xs from to) where
  abbrev hs : List ℕ
  hs = xs.hashes.now

  abbrev ss : List ℕ
  ss = xs.starts.now

  abbrev es : List ℕ
  es = xs.ends.now

  abbrev ths : List ℕ
  ths = kept from es hs

  taken_hashes : hashes_of (taken s) ≡ ths
  taken_hashes = ap hashes_of k.taken_is ∙ sym (kept_hashes from hs ss es xs.same_starts xs.same_ends)

  pub part_items : length ths ≡ length (taken s)
  unfolding hashes_of
  part_items = ap length (sym taken_hashes) ∙ length-map (taken s) (λ (i : Interval). i.hash)

  pub part_coords : coords_of s ≡ union query ths
  unfolding coords_of
  part_coords = ap (λ (q : List ℕ). union q (hashes_of (taken s))) k.query_is ∙ ap (union query) taken_hashes

  -- the numbers of the taken intervals
  abbrev ns : List ℕ
  ns = map (number_of (union query ths)) ths

  numbers_are : ns ≡ map (coord_of (coords_of s)) (taken s)
  unfolding hashes_of
  numbers_are =
      ap (λ (xs : List ℕ). map (number_of (union query ths)) xs) (sym taken_hashes) ∙ ap (λ (c : List ℕ). map (number_of c) (hashes_of (taken s))) (sym part_coords) ∙
      map-map (number_of (coords_of s)) (λ i. i.hash) (taken s)

  starts_taken : kept from es ss ≡ starts_of (taken s)
  starts_taken = kept_starts from hs ss es xs.same_starts xs.same_ends ∙ ap starts_of (sym k.taken_is)

  ends_taken : kept from es es ≡ ends_of (taken s)
  ends_taken = kept_ends from hs ss es xs.same_starts xs.same_ends ∙ ap ends_of (sym k.taken_is)

  inserts_are : insert_keys s ≡ start_keys from to ss es ns
  inserts_are =
      sym
      (ap (λ (xs : List ℕ). keys_of 1 from to xs ns) starts_taken ∙ ap (keys_of 1 from to (starts_of (taken s))) numbers_are ∙
      subst (λ (f : ℕ). keys_of 1 f to (starts_of (taken s)) (map (coord_of (coords_of s)) (taken s)) ≡ insert_keys s) k.start_is
      (subst (λ (t : ℕ). keys_of 1 s.range.start t (starts_of (taken s)) (map (coord_of (coords_of s)) (taken s)) ≡ insert_keys s) k.end_is
      (keys_map 1 s.range.start s.range.end (λ i. i.start) (coord_of (coords_of s)) (taken s))))

  deletes_are : delete_keys s ≡ end_keys from to es ns
  deletes_are =
      sym
      (ap (λ (xs : List ℕ). keys_of 0 from to xs ns) ends_taken ∙ ap (keys_of 0 from to (ends_of (taken s))) numbers_are ∙
      subst (λ (f : ℕ). keys_of 0 f to (ends_of (taken s)) (map (coord_of (coords_of s)) (taken s)) ≡ delete_keys s) k.start_is
      (subst (λ (t : ℕ). keys_of 0 s.range.start t (ends_of (taken s)) (map (coord_of (coords_of s)) (taken s)) ≡ delete_keys s) k.end_is
      (keys_map 0 s.range.start s.range.end (λ i. i.end) (coord_of (coords_of s)) (taken s))))

  numbered : (n : ℕ) → map (number_of (coords_of s)) (hashes_of (take n (taken s))) ≡ take n ns
  unfolding hashes_of
  numbered n = map-map (number_of (coords_of s)) (λ i. i.hash) (take n (taken s)) ∙ map-take (coord_of (coords_of s)) n (taken s) ∙ ap (take n) (sym numbers_are)

  first : filter (λ (i : Interval). leb i.start s.range.start) (taken s) ≡ take (length (taken s) - length (filter (starts_later s) (taken s))) (taken s)
  first =
      begin_first s.range.start s.range.end (taken s) (subst (λ (xs : List ℕ). Asc xs) starts_taken (asc_kept from es ss xs.asc))
      (subst (λ (xs : List ℕ). All (λ p. p ≤ s.range.end) xs) starts_taken (all_kept (λ p. p ≤ s.range.end) from es ss (all_map (λ p. p ≤ to) (λ p. p ≤ s.range.end) (λ p h. omega (arith, k.end_is)) ss k.starts_end)))

  begins_are : beginning s ≡ raised (take (length ns - length (start_keys from to ss es ns)) ns) (no_counts (coords_of s))
  unfolding beginning
  begins_are =
      let u = coords_of s in
      let n = length (taken s) - length (filter (starts_later s) (taken s)) in
      let size : n ≡ length ns - length (start_keys from to ss es ns) =
      omega (arith, ap length numbers_are, length-map (taken s) (coord_of u), ap length inserts_are, length-map (filter (starts_later s) (taken s)) (λ (i : Interval). event_key i.start 1 (coord_of u i))) in
      inserted-raised u (hashes_of (filter (λ (i : Interval). leb i.start s.range.start) (taken s))) (no_counts u) ∙
      ap (λ (xs : List ℕ). raised xs (no_counts u)) (ap (λ (is : List Interval). map (number_of u) (hashes_of is)) first ∙ numbered n ∙ ap (λ (t : ℕ). take t ns) size)

  pub part_tells : StrictAsc query → (cs : List ℕ) → cs ≡ flags query (union query ths) → Tells s (flags_of cs) (counts_of cs) xs ns from to
  unfolding flags
  part_tells rq cs e = record {
    asks = record {
      order = subst (λ (xs : List ℕ). StrictAsc xs) (sym k.query_is) rq;
      flags = ap (λ (q : List ℕ). marks q (coords_of s)) k.query_is ∙ ap (marks query) part_coords ∙ sym (ones_flags query (union query ths)) ∙ ap flags_of (sym e);
      end = k.end_is;
    };
    start = k.start_is;
    inserts = inserts_are;
    deletes = deletes_are;
    begins = begins_are ∙ ap (raised (take (length ns - length (start_keys from to ss es ns)) ns)) (ap no_counts part_coords ∙ sym (ones_counts query (union query ths)) ∙ ap counts_of (sym e));
  }
