-- The keys of intervals: each end is after its start and in its contig, so their counts are balanced; and sorted apart they give the rules' events. By recursion
-- on the hits. Assumes nothing.
use mathlib.Core.Path.{◌≡◌, refl, sym, ap, ◌∙◌}
use mathlib.Core.Logic.{⊎_elim}
use mathlib.Core.Bool.{Bool, true, false}
use mathlib.Core.List.{List, [], ◌∷◌, ◌++◌, map, flatten}
use Prim.Native.Nat.{ℕ, zero, suc, ◌+◌, ◌*◌, ◌^◌, ◌≤◌, ◌<◌, min, max}
use native.Mathlib.Omega.{arith}
use lib.Dec.{ltb}
use lib.ListN.{length, get_or, take, drop, length-map}
use borrow.Author.Tests.{ltb-true}
use Rattle.base.specs.Pick.{pick}
use Rattle.base.specs.Sort.{insert, sort_of}
use Rattle.std.proofs.lemmas.Bool.{cases_lt}
use Rattle.base.proofs.Order.{le_or_le}
use Rattle.base.proofs.Sort.{asc_sort, length_sort, sort_mid, sort_append, sort_map}
use Rattle.keys.specs.Lists.{under, below}
use Rattle.keys.proofs.Searching.{under_yes, under_no}
use Rattle.rules.specs.Limits.{item_limit}
use Rattle.rules.specs.Lists.{filter}
use Rattle.rules.specs.Finder.{Finder, kept, key_of, events_of_hits, hit_events}
use Rattle.rules.proofs.FinderKept.{kept_map}
use Rattle.interval_cover.specs.Cover.{events_of}
use Rattle.interval_cover.specs.Intervals.{Intervals}
use Rattle.interval_hits.specs.Keys.{Hit, hits_of, is_forward, open_of, close_of, intervals_of}

-- ---- counts of keys

-- the order does not count
below-insert : (x y : ℕ) (ys : List ℕ) → below x (insert y ys) ≡ under x y + below x ys
unfolding below insert
below-insert x y [] = refl
below-insert x y (z ∷ zs) =
    ⊎_elim
    (λ (l : y ≤ z).
    let lo : min y z ≡ y = omega arith in
    let hi : max y z ≡ z = omega arith in
    let t = below-insert x (max y z) zs in
    omega (arith, t, ap (under x) lo, ap (under x) hi))
    (λ (l : z ≤ y).
    let lo : min y z ≡ z = omega arith in
    let hi : max y z ≡ y = omega arith in
    let t = below-insert x (max y z) zs in
    omega (arith, t, ap (under x) lo, ap (under x) hi))
    (le_or_le y z)

below_sort : (x : ℕ) (xs : List ℕ) → below x (sort_of xs) ≡ below x xs
unfolding below sort_of
below_sort x [] = refl
below_sort x (y ∷ ys) = below-insert x y (sort_of ys) ∙ ap (λ (n : ℕ). under x y + n) (below_sort x ys)

-- ---- balance

-- an interval of a contig's positions
pub record Good (h : Hit) : Type 0 where
  pub forward : h.start < h.end
  pub fits : h.end < 2 ^ 32

pub data AllGood : List Hit → Type 0 where
  none : AllGood []
  one : {h : Hit} {hs : List Hit} → Good h → AllGood hs → AllGood (h ∷ hs)

forward_one : (x : ℕ) (h : Hit) → Good h → under (x + 1) (close_of h) ≤ under x (open_of h)
unfolding key_of
forward_one x h g =
    ⊎_elim (λ (l : close_of h < x + 1). omega (arith, under_yes (x + 1) (close_of h) l, under_yes x (open_of h) (omega (arith, g.forward))))
    (λ (l : x + 1 ≤ close_of h). omega (arith, under_no (x + 1) (close_of h) l)) (cases_lt (close_of h) (x + 1))

within_one : (c : ℕ) (h : Hit) → Good h → under (c * 2 ^ 32) (close_of h) ≡ under (c * 2 ^ 32) (open_of h)
unfolding key_of
within_one c h g =
    ⊎_elim
    (λ (l : close_of h < c * 2 ^ 32). under_yes (c * 2 ^ 32) (close_of h) l ∙ sym (under_yes (c * 2 ^ 32) (open_of h) (omega (arith, g.forward))))
    (λ (l : c * 2 ^ 32 ≤ close_of h). under_no (c * 2 ^ 32) (close_of h) l ∙ sym (under_no (c * 2 ^ 32) (open_of h) (omega (arith, g.forward, g.fits))))
    (cases_lt (close_of h) (c * 2 ^ 32))

forward_all : (x : ℕ) (hs : List Hit) → AllGood hs → below (x + 1) (map close_of hs) ≤ below x (map open_of hs)
unfolding below
forward_all x [] none = omega arith
forward_all x (h ∷ hs) (one g gs) = omega (arith, forward_one x h g, forward_all x hs gs)

within_all : (c : ℕ) (hs : List Hit) → AllGood hs → below (c * 2 ^ 32) (map close_of hs) ≡ below (c * 2 ^ 32) (map open_of hs)
unfolding below
within_all c [] none = refl
within_all c (h ∷ hs) (one g gs) = omega (arith, within_one c h g, within_all c hs gs)

pub intervals_balanced : (hs : List Hit) → AllGood hs → length hs ≤ item_limit → Intervals (sort_of (map open_of hs)) (sort_of (map close_of hs))
intervals_balanced hs good few = record {
  asc_opens = asc_sort (map open_of hs);
  asc_closes = asc_sort (map close_of hs);
  parallel = length_sort (map open_of hs) ∙ length-map hs open_of ∙ sym (length_sort (map close_of hs) ∙ length-map hs close_of);
  few = omega (arith, length_sort (map open_of hs), length-map hs open_of);
  forward = λ x. omega (arith, below_sort (x + 1) (map close_of hs), below_sort x (map open_of hs), forward_all x hs good);
  within = λ c. below_sort (c * 2 ^ 32) (map close_of hs) ∙ within_all c hs good ∙ sym (below_sort (c * 2 ^ 32) (map open_of hs));
}

-- the intervals among hits whose ends fit are such
data AllFit : List Hit → Type 0 where
  empty : AllFit []
  more : {h : Hit} {hs : List Hit} → h.end < 2 ^ 32 → AllFit hs → AllFit (h ∷ hs)

fit_take : (n : ℕ) (hs : List Hit) → AllFit hs → AllFit (take n hs)
fit_take zero hs f = empty
fit_take (suc n) [] f = empty
fit_take (suc n) (h ∷ hs) (more l f) = more l (fit_take n hs f)

fit_drop : (n : ℕ) (hs : List Hit) → AllFit hs → AllFit (drop n hs)
fit_drop zero hs f = f
fit_drop (suc n) [] f = empty
fit_drop (suc n) (h ∷ hs) (more l f) = fit_drop n hs f

fit_append : (xs ys : List Hit) → AllFit xs → AllFit ys → AllFit (xs ++ ys)
fit_append [] ys empty g = g
fit_append (x ∷ xs) ys (more l f) g = more l (fit_append xs ys f g)

fit_kept : (threshold : ℕ) (groups : List ℕ) (hs : List Hit) → AllFit hs → AllFit (kept threshold groups hs)
unfolding kept pick
fit_kept threshold [] hs f = empty
fit_kept threshold (g ∷ gs) hs f =
    fit_append (pick (ltb g threshold) (take g hs) []) (kept threshold gs (drop g hs)) (one_group (ltb g threshold)) (fit_kept threshold gs (drop g hs) (fit_drop g hs f))
  where
    one_group : (t : Bool) → AllFit (pick t (take g hs) [])
    one_group true = fit_take g hs f
    one_group false = empty

fit_good : (hs : List Hit) → AllFit hs → AllGood (filter is_forward hs)
unfolding filter pick
fit_good [] empty = none
fit_good (h ∷ hs) (more l f) = this (is_forward h) refl (fit_good hs f)
  where
    this : (t : Bool) → is_forward h ≡ t → AllGood (filter is_forward hs) → AllGood (pick t (h ∷ []) [] ++ filter is_forward hs)
    this true e g = one (record { forward = ltb-true h.start h.end e; fits = l }) g
    this false e g = g

fit_hits : (cs ss es : List ℕ) → ((i : ℕ) → i < length es → get_or es i 0 < 2 ^ 32) → AllFit (hits_of cs ss es)
unfolding hits_of
fit_hits [] ss es h = empty
fit_hits (c ∷ cs) [] es h = empty
fit_hits (c ∷ cs) (s ∷ ss) [] h = empty
fit_hits (c ∷ cs) (s ∷ ss) (e ∷ es) h = more (h 0 (omega arith)) (fit_hits cs ss es (λ i l. h (suc i) (omega arith)))

pub intervals_good : (threshold : ℕ) (groups cs ss es : List ℕ) → ((i : ℕ) → i < length es → get_or es i 0 < 2 ^ 32) → AllGood (intervals_of threshold groups cs ss es)
intervals_good threshold groups cs ss es h = fit_good (kept threshold groups (hits_of cs ss es)) (fit_kept threshold groups (hits_of cs ss es) (fit_hits cs ss es h))

-- ---- the rules' events

abbrev start_event : ℕ → ℕ
start_event k = k * 2 + 1

abbrev end_event : ℕ → ℕ
end_event k = k * 2

-- the events of a hit
abbrev events_of_hit : Hit → List ℕ
events_of_hit h = pick (is_forward h) (start_event (open_of h) ∷ end_event (close_of h) ∷ []) []

hits_events : (cs ss es : List ℕ) → events_of_hits cs ss es ≡ map events_of_hit (hits_of cs ss es)
unfolding events_of_hits hits_of
hits_events [] ss es = refl
hits_events (c ∷ cs) [] es = refl
hits_events (c ∷ cs) (s ∷ ss) [] = refl
hits_events (c ∷ cs) (s ∷ ss) (e ∷ es) = ap (λ (l : List (List ℕ)). events_of_hit (record { contig = c; start = s; end = e }) ∷ l) (hits_events cs ss es)

-- starts and ends apart, in any order
apart : (hs : List Hit) → sort_of (flatten (map events_of_hit hs)) ≡ sort_of (map start_event (map open_of (filter is_forward hs)) ++ map end_event (map close_of (filter is_forward hs)))
unfolding flatten filter pick sort_of
apart [] = refl
apart (h ∷ hs) = this (is_forward h) (apart hs)
  where
    starts : List ℕ
    starts = map start_event (map open_of (filter is_forward hs))

    ends : List ℕ
    ends = map end_event (map close_of (filter is_forward hs))

    this : (t : Bool) → sort_of (flatten (map events_of_hit hs)) ≡ sort_of (starts ++ ends) → sort_of (pick t (start_event (open_of h) ∷ end_event (close_of h) ∷ []) [] ++ flatten (map events_of_hit hs))
        ≡ sort_of (map start_event (map open_of (pick t (h ∷ []) [] ++ filter is_forward hs)) ++ map end_event (map close_of (pick t (h ∷ []) [] ++ filter is_forward hs)))
    this true e =
        ap (λ (x : List ℕ). insert (start_event (open_of h)) (insert (end_event (close_of h)) x)) e ∙
        ap (insert (start_event (open_of h))) (sym (sort_mid starts (end_event (close_of h)) ends))
    this false e = e

pub events_of_lem : (f : Finder) → let hs = intervals_of f.threshold f.groups f.contigs f.starts f.ends in events_of (sort_of (map open_of hs)) (sort_of (map close_of hs)) ≡ hit_events f
unfolding events_of hit_events
events_of_lem f =
    let hs = kept f.threshold f.groups (hits_of f.contigs f.starts f.ends) in
    let opens = map open_of (filter is_forward hs) in
    let closes = map close_of (filter is_forward hs) in
    sort_append (map start_event (sort_of opens)) (map end_event (sort_of closes)) (map start_event opens) (map end_event closes) (sort_map start_event opens) (sort_map end_event closes) ∙
    sym (apart hs) ∙
    ap (λ (x : List (List ℕ)). sort_of (flatten x))
    (sym (ap (kept f.threshold f.groups) (hits_events f.contigs f.starts f.ends) ∙ kept_map events_of_hit f.threshold f.groups (hits_of f.contigs f.starts f.ends)))
