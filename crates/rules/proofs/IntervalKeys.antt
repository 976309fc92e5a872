-- The events as two lists: a key for each later start, and one for each end within the range. Together they are the events, each as often; and where starts
-- never descend the keys of the starts ascend by position and kind already. So the code sorts only the ends and merges (IntervalOrder says that this is enough).
-- Assumes nothing.
use Prim.Native.Nat.{ℕ, ◌+◌, ◌*◌, ◌≤◌, ◌<◌}
use native.Mathlib.Omega.{arith}
use mathlib.Core.Path.{◌≡◌, refl, ◌∙◌}
use mathlib.Core.Logic.{⊎_elim}
use mathlib.Core.Bool.{Bool, true, false}
use mathlib.Core.List.{List, [], ◌∷◌, ◌++◌, map, flatten}
use lib.ListN.{length}
use Rattle.base.specs.Pick.{pick}
use Rattle.base.specs.Lists.{All, Asc, hit, times}
use Rattle.base.specs.Sort.{sort_of}
use Rattle.base.proofs.Lists.{times-append}
use Rattle.base.proofs.Sort.{sort_same}
use Rattle.rules.specs.Lists.{filter, member}
use Rattle.rules.specs.Sweep.{Sweep}
use Rattle.rules.specs.Interval.{Interval, intervals_of, is_taken, taken, coords_of, event_key, events_of, events, beginning, spans_from, spans}
use Rattle.rules.proofs.Score.{cases, number_fits}
use Rattle.rules.proofs.IntervalEach.{Each, each_map, each_all, all_each, each_filter}
use Rattle.rules.proofs.IntervalEvents.{coord_of, starts_later, ends_later, insert_key, delete_key}
use Rattle.rules.proofs.IntervalSpans.{strict_coords}
use Rattle.rules.proofs.Interval.{taken_members}
use Rattle.rules.proofs.IntervalTaken.{starts_of, starts_are}
use Rattle.rules.proofs.IntervalOrder.{turn, spans_any}

-- the keys of later starts, and of ends within the range
abbrev pub insert_keys : Sweep → List ℕ
insert_keys s = map (insert_key (coords_of s)) (filter (starts_later s) (taken s))

abbrev pub delete_keys : Sweep → List ℕ
delete_keys s = map (delete_key (coords_of s)) (filter (ends_later s) (taken s))

-- ---- together they are the events

times-pick : (v k : ℕ) (t : Bool) → times v (pick t (k ∷ []) []) ≡ pick t (hit v k) 0
unfolding times pick
times-pick v k true = omega arith
times-pick v k false = refl

times-filter : (v : ℕ) (key : Interval → ℕ) (t : Interval → Bool) (i : Interval) (is : List Interval) → times v (map key (filter t (i ∷ is))) ≡ pick (t i) (hit v (key i)) 0 + times v (map key (filter t is))
unfolding times filter pick
times-filter v key t i is = ⊎_elim (λ (e : t i ≡ true). rw e) (λ (e : t i ≡ false). rw e (omega arith)) (cases (t i))

times_none : (v : ℕ) (key : Interval → ℕ) (t : Interval → Bool) → times v (map key (filter t [])) ≡ times v []
unfolding filter
times_none v key t = refl

times-nil : (v : ℕ) → times v [] ≡ 0
unfolding times
times-nil v = refl

module _ (s : Sweep) where
  times_keys : (v : ℕ) (is : List Interval) → times v (map (insert_key (coords_of s)) (filter (starts_later s) is)) + times v (map (delete_key (coords_of s)) (filter (ends_later s) is)) ≡ times v (flatten (map (events_of s (coords_of s)) is))
  unfolding flatten events_of
  times_keys v [] = omega (arith, times_none v (insert_key (coords_of s)) (starts_later s), times_none v (delete_key (coords_of s)) (ends_later s), times-nil v)
  times_keys v (i ∷ is) =
      omega (arith, times_keys v is, times-filter v (insert_key (coords_of s)) (starts_later s) i is, times-filter v (delete_key (coords_of s)) (ends_later s) i is, times-pick v (insert_key (coords_of s) i) (starts_later s i), times-pick v (delete_key (coords_of s) i) (ends_later s i), times-append v (pick (starts_later s i) (insert_key (coords_of s) i ∷ []) []) (pick (ends_later s i) (delete_key (coords_of s) i ∷ []) []), times-append v (pick (starts_later s i) (insert_key (coords_of s) i ∷ []) [] ++ pick (ends_later s i) (delete_key (coords_of s) i ∷ []) []) (flatten (map (events_of s (coords_of s)) is)))

  pub events_keys : sort_of (insert_keys s ++ delete_keys s) ≡ events s
  unfolding events
  events_keys =
      sort_same (insert_keys s ++ delete_keys s) (flatten (map (events_of s (coords_of s)) (taken s)))
      (λ v. times-append v (insert_keys s) (delete_keys s) ∙ times_keys v (taken s))

  -- any merge of the two that ascends by position and kind gives the sweep's spans
  pub spans_merged : (ks : List ℕ) → sort_of ks ≡ sort_of (insert_keys s ++ delete_keys s) → Asc (map turn ks) → spans_from s s.range.start (beginning s) ks ≡ spans s
  spans_merged ks e r = spans_any s ks (e ∙ events_keys) r

-- ---- the keys of the starts ascend already

asc_filter : (key : Interval → ℕ) (t : Interval → Bool) (is : List Interval) → Asc (map key is) → Asc (map key (filter t is))
unfolding filter pick
asc_filter key t [] r = tt
asc_filter key t (i ∷ is) r =
    ⊎_elim (λ (e : t i ≡ true). rw e (all_each (λ y. key i ≤ y) key (filter t is) (each_filter (λ j. key i ≤ key j) t is (each_all (λ y. key i ≤ y) key is r.0)), asc_filter key t is r.1)) (λ (e : t i ≡ false). rw e (asc_filter key t is r.1)) (cases (t i))

-- a key's turn tells its start, if its coordinate fits 16 bits
turn_insert : (at coord : ℕ) → coord < 65536 → turn (event_key at 1 coord) ≡ at * 2 + 1
unfolding event_key
turn_insert at coord l = omega arith

module _ (s : Sweep) where
  abbrev Fits : Interval → Type 0
  Fits i = coord_of (coords_of s) i < 65536

  all_turns : (i : Interval) → Fits i → (is : List Interval) → Each Fits is → All (λ p. i.start ≤ p) (starts_of is) → All (λ u. turn (insert_key (coords_of s) i) ≤ u) (map turn (map (insert_key (coords_of s)) is))
  all_turns i f [] a b = tt
  all_turns i f (j ∷ is) a b =
      (omega (arith, turn_insert i.start (coord_of (coords_of s) i) f, turn_insert j.start (coord_of (coords_of s) j) a.0, b.0), all_turns i f is a.1 b.1)

  asc_turns : (is : List Interval) → Each Fits is → Asc (starts_of is) → Asc (map turn (map (insert_key (coords_of s)) is))
  asc_turns [] a r = tt
  asc_turns (i ∷ is) a r = (all_turns i a.0 is a.1 r.0, asc_turns is a.1 r.1)

  pub insert_turns : length (coords_of s) ≤ 65536 → length s.starts ≡ length s.hashes → length s.ends ≡ length s.hashes → Asc s.starts → Asc (map turn (insert_keys s))
  unfolding taken
  insert_turns small l m r =
      asc_turns (filter (starts_later s) (taken s)) (each_filter Fits (starts_later s) (taken s) (each_map (λ i. member i.hash (coords_of s) ≡ true) Fits (λ i n. omega (arith, number_fits (coords_of s) (strict_coords s) i.hash n)) (taken s) (taken_members s)))
      (asc_filter (λ i. i.start) (starts_later s) (taken s)
      (asc_filter (λ i. i.start) (is_taken s) (intervals_of s.hashes s.starts s.ends) (rw (starts_are s.hashes s.starts s.ends l m) r)))
