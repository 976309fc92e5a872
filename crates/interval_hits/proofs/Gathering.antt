-- Keys of intervals at the fronts of two lists: the hits of a group are passed one by one, an empty interval gives no key, and what the groups so far gave
-- with what the others will give makes the whole. A key is never put past the hits that were read, so there is room. Assumes nothing.
use mathlib.Core.Path.{◌≡◌, refl, sym, ap, ◌∙◌, subst}
use mathlib.Core.Bool.{Bool, true, false}
use mathlib.Core.List.{List, [], ◌∷◌, ◌++◌, map, map-append, append-nil, append_assoc}
use Prim.Native.Nat.{ℕ, zero, suc, ◌+◌, ◌≤◌, ◌<◌}
use native.Mathlib.Nat.{not-suc-le-zero}
use native.Mathlib.Numerals.{add-one}
use native.Mathlib.Omega.{arith}
use lib.ListN.{length, get_or, set, take, drop, length-append, length-map, length-drop, length-take}
use lib.Seq.{take-suc, take-suc-set, take_at, take_all, length-take-le}
use borrow.Author.Tests.{lt-ltb, le-ltb}
use Rattle.base.specs.Lists.{All}
use Rattle.base.specs.Pick.{pick}
use Rattle.base.specs.Sort.{sort_of}
use Rattle.base.proofs.Sort.{length_sort}
use Rattle.rules.specs.Lists.{sum, filter}
use Rattle.rules.specs.Finder.{key_of}
use Rattle.rules.proofs.FinderKept.{sum_next, kept_from, kept_keep, kept_pass, kept_end, kept_all}
use Rattle.interval_hits.specs.declared.Kept.{Kept}
use Rattle.interval_hits.specs.declared.IntervalHits.{IntervalHits}
use Rattle.interval_hits.specs.declared.IntervalKeys.{IntervalKeys}
use Rattle.interval_hits.specs.Keys.{Hit, hits_of, is_forward, forward, open_of, close_of, Put, Fronts}
use Rattle.interval_hits.specs.Hits.{Room, SameKeys, PutAll, Sorted, all_hits, kept_hits, kept_intervals, Filled, Gathered}

-- ---- hits, by the index

pub hits_length : (cs ss es : List ℕ) → length cs ≡ length ss → length cs ≡ length es → length (hits_of cs ss es) ≡ length cs
unfolding hits_of
hits_length [] ss es a b = refl
hits_length (c ∷ cs) [] es a b = absurd (omega arith)
hits_length (c ∷ cs) (s ∷ ss) [] a b = absurd (omega arith)
hits_length (c ∷ cs) (s ∷ ss) (e ∷ es) a b = ap suc (hits_length cs ss es (omega arith) (omega arith))

-- the hit at i of three lists
abbrev pub hit_at : List ℕ → List ℕ → List ℕ → ℕ → Hit
hit_at cs ss es i = record { contig = get_or cs i 0; start = get_or ss i 0; end = get_or es i 0 }

abbrev no_hit : Hit
no_hit = record { contig = 0; start = 0; end = 0 }

hits_at : (cs ss es : List ℕ) (i : ℕ) → length cs ≡ length ss → length cs ≡ length es → i < length cs → get_or (hits_of cs ss es) i no_hit ≡ hit_at cs ss es i
unfolding hits_of
hits_at [] ss es i a b l = absurd (not-suc-le-zero l)
hits_at (c ∷ cs) [] es i a b l = absurd (omega arith)
hits_at (c ∷ cs) (s ∷ ss) [] i a b l = absurd (omega arith)
hits_at (c ∷ cs) (s ∷ ss) (e ∷ es) zero a b l = refl
hits_at (c ∷ cs) (s ∷ ss) (e ∷ es) (suc i) a b l = hits_at cs ss es i (omega arith) (omega arith) (omega arith)

-- ---- the intervals among hits

filter-append : (xs ys : List Hit) → filter is_forward (xs ++ ys) ≡ filter is_forward xs ++ filter is_forward ys
unfolding filter
filter-append [] ys = refl
filter-append (x ∷ xs) ys =
    ap (λ (l : List Hit). pick (is_forward x) (x ∷ []) [] ++ l) (filter-append xs ys) ∙ sym (append_assoc (pick (is_forward x) (x ∷ []) []) (filter is_forward xs) (filter is_forward ys))

filter_yes : (x : Hit) → x.start < x.end → filter is_forward (x ∷ []) ≡ x ∷ []
unfolding filter pick
filter_yes x l = rw (lt-ltb x.start x.end l)

filter_no : (x : Hit) → x.end ≤ x.start → filter is_forward (x ∷ []) ≡ []
unfolding filter pick
filter_no x l = rw (le-ltb x.start x.end l)

pub filter_few : (xs : List Hit) → length (filter is_forward xs) ≤ length xs
unfolding filter pick
filter_few [] = omega arith
filter_few (x ∷ xs) = one (is_forward x) (filter_few xs)
  where
    one : (t : Bool) → length (filter is_forward xs) ≤ length xs → length (pick {A = List Hit} t (x ∷ []) [] ++ filter is_forward xs) ≤ suc (length xs)
    one true h = omega arith
    one false h = omega arith

-- ---- keys put at the fronts

-- one interval more
put_one : (xs : List Hit) (h : Hit) (opens closes : List ℕ) (n : ℕ) (opens₁ closes₁ : List ℕ) (r : ℕ) → Put xs opens closes n opens₁ closes₁ r → r < length opens₁ → r < length closes₁
    → Put (xs ++ (h ∷ [])) opens closes n (set opens₁ r (open_of h)) (set closes₁ r (close_of h)) (r + 1)
put_one xs h opens closes n opens₁ closes₁ r p in_opens in_closes =
    let key : (f : Hit → ℕ) (entry now : List ℕ) → take r now ≡ take n entry ++ map f xs → r < length now → take (r + 1) (set now r (f h)) ≡ take n entry ++ map f (xs ++ (h ∷ [])) =
    λ f entry now e l.
    ap (λ (k : ℕ). take k (set now r (f h))) (add-one r) ∙ take-suc-set now r (f h) l ∙ ap (λ (x : List ℕ). x ++ (f h ∷ [])) e ∙
    append_assoc (take n entry) (map f xs) (f h ∷ []) ∙ ap (λ (x : List ℕ). take n entry ++ x) (sym (map-append f xs (h ∷ []))) in
    record {
      many = omega (arith, p.many, length-append xs (h ∷ []));
      opened = key open_of opens opens₁ p.opened in_opens;
      closed = key close_of closes closes₁ p.closed in_closes;
    }

-- after k hits
pub record Putting (cs ss es opens closes : List ℕ) (n : ℕ) (opens₁ closes₁ : List ℕ) (r k : ℕ) : Type 0 where
  pub put : Put (forward (take k (hits_of cs ss es))) opens closes n opens₁ closes₁ r
  pub few : r ≤ n + k

module _ {cs ss es opens closes : List ℕ} {n : ℕ} where
  pub putting_start : Putting cs ss es opens closes n opens closes n 0
  unfolding filter
  putting_start = record {
    put = record { many = omega arith; opened = sym (append-nil (take n opens)); closed = sym (append-nil (take n closes)) };
    few = omega arith;
  }

  module _ (same_starts : length cs ≡ length ss) (same_ends : length cs ≡ length es) {opens₁ closes₁ : List ℕ} {r k : ℕ} (p : Putting cs ss es opens closes n opens₁ closes₁ r k) where
    module _ (l : k < length cs) where
      abbrev h : Hit
      h = hit_at cs ss es k

      split : forward (take (k + 1) (hits_of cs ss es)) ≡ forward (take k (hits_of cs ss es)) ++ forward (hit_at cs ss es k ∷ [])
      split =
          let hits = hits_of cs ss es in
          let more : take (k + 1) hits ≡ take k hits ++ (h ∷ []) =
          ap (λ (m : ℕ). take m hits) (add-one k) ∙ take-suc hits k no_hit (omega (arith, hits_length cs ss es same_starts same_ends)) ∙
          ap (λ (x : Hit). take k hits ++ (x ∷ [])) (hits_at cs ss es k same_starts same_ends l) in
          ap (filter is_forward) more ∙ filter-append (take k hits) (h ∷ [])

      pub putting_pass : get_or es k 0 ≤ get_or ss k 0 → Putting cs ss es opens closes n opens₁ closes₁ r (k + 1)
      putting_pass e =
          let same : forward (take k (hits_of cs ss es)) ≡ forward (take (k + 1) (hits_of cs ss es)) =
          sym (split ∙ ap (λ (x : List Hit). forward (take k (hits_of cs ss es)) ++ x) (filter_no h e) ∙ append-nil _) in
          record { put = subst (λ (x : List Hit). Put x opens closes n opens₁ closes₁ r) same p.put; few = omega (arith, p.few) }

      pub putting_step : (x y : ℕ) → r < length opens₁ → r < length closes₁ → get_or ss k 0 < get_or es k 0 → x ≡ key_of (get_or cs k 0) (get_or ss k 0)
          → y ≡ key_of (get_or cs k 0) (get_or es k 0) → Putting cs ss es opens closes n (set opens₁ r x) (set closes₁ r y) (r + 1) (k + 1)
      putting_step x y in_opens in_closes e a b =
          let same : forward (take k (hits_of cs ss es)) ++ (h ∷ []) ≡ forward (take (k + 1) (hits_of cs ss es)) =
          sym (split ∙ ap (λ (x : List Hit). forward (take k (hits_of cs ss es)) ++ x) (filter_yes h e)) in
          let one = put_one (forward (take k (hits_of cs ss es))) h opens closes n opens₁ closes₁ r p.put in_opens in_closes in
          record {
            put =
                subst (λ (v : ℕ). Put (forward (take (k + 1) (hits_of cs ss es))) opens closes n (set opens₁ r v) (set closes₁ r y) (r + 1)) (sym a)
                (subst (λ (v : ℕ). Put (forward (take (k + 1) (hits_of cs ss es))) opens closes n (set opens₁ r (open_of h)) (set closes₁ r v) (r + 1)) (sym b)
                (subst (λ (z : List Hit). Put z opens closes n (set opens₁ r (open_of h)) (set closes₁ r (close_of h)) (r + 1)) same one));
            few = omega (arith, p.few);
          }

    pub putting_end : length cs ≤ k → Put (forward (hits_of cs ss es)) opens closes n opens₁ closes₁ r
    putting_end l =
        let all : take k (hits_of cs ss es) ≡ hits_of cs ss es = take_all k (hits_of cs ss es) (omega (arith, hits_length cs ss es same_starts same_ends)) in
        subst (λ (x : List Hit). Put (forward x) opens closes n opens₁ closes₁ r) all p.put

-- ---- a part of the hits

hits_take : (n : ℕ) (cs ss es : List ℕ) → hits_of (take n cs) (take n ss) (take n es) ≡ take n (hits_of cs ss es)
unfolding hits_of
hits_take zero cs ss es = refl
hits_take (suc n) [] ss es = refl
hits_take (suc n) (c ∷ cs) [] es = refl
hits_take (suc n) (c ∷ cs) (s ∷ ss) [] = refl
hits_take (suc n) (c ∷ cs) (s ∷ ss) (e ∷ es) = ap (λ (l : List Hit). record { contig = c; start = s; end = e } ∷ l) (hits_take n cs ss es)

hits_drop : (n : ℕ) (cs ss es : List ℕ) → length cs ≡ length ss → length cs ≡ length es → hits_of (drop n cs) (drop n ss) (drop n es) ≡ drop n (hits_of cs ss es)
unfolding hits_of
hits_drop zero cs ss es a b = refl
hits_drop (suc n) [] ss es a b = refl
hits_drop (suc n) (c ∷ cs) [] es a b = absurd (omega arith)
hits_drop (suc n) (c ∷ cs) (s ∷ ss) [] a b = absurd (omega arith)
hits_drop (suc n) (c ∷ cs) (s ∷ ss) (e ∷ es) a b = hits_drop n cs ss es (omega arith) (omega arith)

-- ---- the same two lists

pub same_then : {a b c : IntervalKeys} → SameKeys a b → SameKeys b c → SameKeys a c
same_then s t = record { opens = t.opens ∙ s.opens; closes = t.closes ∙ s.closes; opens_len = t.opens_len ∙ s.opens_len; closes_len = t.closes_len ∙ s.closes_len }

-- fewer places, or in the same lists later
pub room_then : {k n : ℕ} {a b : IntervalKeys} → k ≤ n → SameKeys a b → Room n a → Room k b
room_then l s r = record { opens = omega (arith, r.opens, s.opens_len); closes = omega (arith, r.closes, s.closes_len) }

-- ---- all groups, before the g-th, whose hits begin at `at`

pub record Filling (h : IntervalHits) (old now : IntervalKeys) (n hits at g : ℕ) : Type 0 where
  pub done : List Hit
  pub whole : done ++ kept_from h.threshold h.groups.now (all_hits h) g at ≡ kept_hits h
  pub hits_is : hits ≡ length done
  pub fronts : Fronts (forward done) now.opens.now now.closes.now n
  pub left : at + sum (drop g h.groups.now) ≡ length h.contigs.now
  pub few : hits ≤ at
  pub same : SameKeys old now

pub filling_start : (h : IntervalHits) {keys : IntervalKeys} → Filling h keys keys 0 0 0 0
unfolding filter
filling_start h = record {
  done = [];
  whole = refl;
  hits_is = refl;
  fronts = record { many = refl; opened = refl; closed = refl };
  left = omega (arith, h.all);
  few = omega arith;
  same = record { opens = refl; closes = refl; opens_len = refl; closes_len = refl };
}

module _ {h : IntervalHits} {old now : IntervalKeys} {n hits at g : ℕ} (f : Filling h old now n hits at g) where
  abbrev size : ℕ
  size = get_or h.groups.now g 0

  hits_long : length (all_hits h) ≡ length h.contigs.now
  hits_long = hits_length h.contigs.now h.starts.now h.ends.now h.same_starts h.same_ends

  filling_few : n ≤ hits
  filling_few = omega (arith, f.fronts.many, f.hits_is, filter_few f.done)

  module _ (l : g < length h.groups.now) where
    pub filling_within : at + size ≤ length h.contigs.now
    filling_within = omega (arith, sum_next h.groups.now g l, f.left)

    pub filling_room : {m : ℕ} → m ≤ size → Room (length h.contigs.now) old → Room (n + m) now
    filling_room s r = room_then (omega (arith, filling_within, filling_few, f.few)) f.same r

    next_left : at + size + sum (drop (g + 1) h.groups.now) ≡ length h.contigs.now
    next_left = omega (arith, sum_next h.groups.now g l, f.left)

    pub filling_pass : h.threshold ≤ size → Filling h old now n hits (at + size) (g + 1)
    filling_pass long = record {
      done = f.done;
      whole = ap (λ (x : List Hit). f.done ++ x) (sym (kept_pass h.threshold h.groups.now (all_hits h) g at l long)) ∙ f.whole;
      hits_is = f.hits_is;
      fronts = f.fronts;
      left = next_left;
      few = omega (arith, f.few);
      same = f.same;
    }

    -- the group's hits, as a part of the lists
    part_is : {m : ℕ} → m ≡ size → hits_of (take m (drop at h.contigs.now)) (take m (drop at h.starts.now)) (take m (drop at h.ends.now)) ≡ take size (drop at (all_hits h))
    part_is {m} e =
        hits_take m (drop at h.contigs.now) (drop at h.starts.now) (drop at h.ends.now) ∙ ap (take m) (hits_drop at h.contigs.now h.starts.now h.ends.now h.same_starts h.same_ends) ∙
        ap (λ (k : ℕ). take k (drop at (all_hits h))) e

    pub filling_keep : {new : IntervalKeys} {r m : ℕ} → size < h.threshold → m ≡ size
        → PutAll (forward (hits_of (take m (drop at h.contigs.now)) (take m (drop at h.starts.now)) (take m (drop at h.ends.now)))) now n new r → Filling h old new r (hits + size) (at + size) (g + 1)
    filling_keep {new} {r} {m} short e p =
        let part = take size (drop at (all_hits h)) in
        let put : Put (forward part) now.opens.now now.closes.now n new.opens.now new.closes.now r =
        subst (λ (x : List Hit). Put (forward x) now.opens.now now.closes.now n new.opens.now new.closes.now r) (part_is e) p.put in
        let long : length part ≡ size = length-take-le size (drop at (all_hits h)) (omega (arith, length-drop at (all_hits h), hits_long, filling_within)) in
        let both : forward (f.done ++ part) ≡ forward f.done ++ forward part = filter-append f.done part in
        let key : (k : Hit → ℕ) (here there : List ℕ) → take n here ≡ map k (forward f.done) → take r there ≡ take n here ++ map k (forward part) → take r there ≡ map k (forward (f.done ++ part)) =
        λ k here there e q.
        q ∙ ap (λ (x : List ℕ). x ++ map k (forward part)) e ∙ sym (map-append k (forward f.done) (forward part)) ∙ ap (map k) (sym both) in
        record {
          done = f.done ++ part;
          whole =
              append_assoc f.done part (kept_from h.threshold h.groups.now (all_hits h) (g + 1) (at + size)) ∙
              ap (λ (x : List Hit). f.done ++ x) (sym (kept_keep h.threshold h.groups.now (all_hits h) g at l short)) ∙ f.whole;
          hits_is = omega (arith, f.hits_is, length-append f.done part, long);
          fronts = record {
            many = omega (arith, put.many, f.fronts.many, ap length both, length-append (forward f.done) (forward part));
            opened = key open_of now.opens.now new.opens.now f.fronts.opened put.opened;
            closed = key close_of now.closes.now new.closes.now f.fronts.closed put.closed;
          };
          left = next_left;
          few = omega (arith, f.few);
          same = same_then f.same p.same;
        }

  pub filling_end : length h.groups.now ≤ g → Filled h old now (record { intervals = n; hits = hits })
  filling_end l =
      let all : f.done ≡ kept_hits h =
      sym (append-nil f.done) ∙ ap (λ (x : List Hit). f.done ++ x) (sym (kept_end h.threshold h.groups.now (all_hits h) g at l)) ∙ f.whole in
      record {
        fronts = subst (λ (x : List Hit). Fronts (forward x) now.opens.now now.closes.now n) all f.fronts;
        hits_is = f.hits_is ∙ ap length all;
        same = f.same;
      }

-- ---- all hits as one group, where none is dropped

pub flat_filled : (h : IntervalHits) {old new : IntervalKeys} {r : ℕ} → All (λ g. g < h.threshold) h.groups.now → PutAll (forward (all_hits h)) old 0 new r
    → Filled h old new (record { intervals = r; hits = length h.contigs.now })
flat_filled h {old} {new} {r} short p =
    let hits = all_hits h in
    let long : length hits ≡ length h.contigs.now = hits_length h.contigs.now h.starts.now h.ends.now h.same_starts h.same_ends in
    let all : kept_hits h ≡ hits = kept_all h.threshold h.groups.now hits short (h.all ∙ sym long) in
    record {
      fronts = subst (λ (x : List Hit). Fronts (forward x) new.opens.now new.closes.now r) (sym all) (record { many = omega (arith, p.put.many); opened = p.put.opened; closed = p.put.closed });
      hits_is = sym (ap length all ∙ long);
      same = p.same;
    }
