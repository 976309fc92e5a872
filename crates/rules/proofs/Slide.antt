-- Pivot and shared count by ranks are those by hashes: where the coordinates rise strictly and hold the query, the elements at the flagged numbers are the hashes
-- themselves, so that the number p with k − 1 flagged numbers before it stands for the union's k-th smallest hash, and counting flags through p counts hashes.
use mathlib.Core.Path.{◌≡◌, refl, sym, ap, ◌∙◌, subst}
use mathlib.Core.Logic.{◌⊎◌, inl, inr, ⊎_elim}
use mathlib.Core.Bool.{Bool, true, false, ◌||◌, false≢true}
use mathlib.Core.List.{List, [], ◌∷◌, ◌++◌, map}
use Prim.Native.Nat.{ℕ, zero, suc, ◌+◌, ◌-◌, ◌≤◌, ◌<◌}
use native.Mathlib.Nat.{le_of_suc-le-suc, not-suc-le-zero}
use native.Mathlib.Numerals.{add-one}
use native.Mathlib.Omega.{arith}
use lib.Dec.{ltb, eqb}
use lib.ListN.{length, get_or, take, length-map}
use borrow.Author.Tests.{eq-eqb, ne_eqb}
use Rattle.base.specs.Pick.{pick}
use Rattle.base.specs.Counting.{count}
use Rattle.std.proofs.lemmas.Bool.{cases_lt}
use Rattle.base.proofs.Counting.{count-zero, count_next, count_below, count_none, count-le}
use Rattle.rules.specs.Lists.{member}
use Rattle.rules.specs.Lists.{count as howMany}
use Rattle.rules.specs.Score.{union, in_both, score, number_of, pivot_hash}
use Rattle.rules.specs.Script.{active, pivot_of, shared_of}
use Rattle.rules.specs.Moves.{is_active, marks}
use Rattle.rules.proofs.Moves.{or_bit, and_bit, active_bit, mark_past, has_past, mark-le, has-le}
use Rattle.rules.specs.Ranks.{either, both, PivotAt, mark, has, size}
use Rattle.base.specs.Lists.{StrictAsc}
use Rattle.base.proofs.Lists.{strict_at, map_at}
use Rattle.rules.proofs.Score.{all_member, member_all, strict_same, strict_union, member_union, at_number, number_fits, number_at, below_all, shared_score}

-- ---- the elements at the flagged places

-- the elements whose flag is true
unfoldable pub chosen : List Bool → List ℕ → List ℕ
chosen [] xs = []
chosen (b ∷ bs) [] = []
chosen (b ∷ bs) (x ∷ xs) = pick b (x ∷ []) [] ++ chosen bs xs

-- counting from the front
count_front : (f : ℕ → ℕ) (n : ℕ) → count f (suc n) ≡ f 0 + count (λ (i : ℕ). f (suc i)) n
unfolding count
count_front f zero = omega arith
count_front f (suc n) = omega (arith, count_front f n)

mark_front : (b : Bool) (bs : List Bool) (n : ℕ) → count (mark (b ∷ bs)) (suc n) ≡ pick b 1 0 + count (mark bs) n
unfolding mark
mark_front b bs n = count_front (mark (b ∷ bs)) n

mark_none : (i : ℕ) → mark [] i ≡ 0
unfolding mark pick
mark_none i = refl

mark_first : (b : Bool) (bs : List Bool) → mark (b ∷ bs) 0 ≡ pick b 1 0
unfolding mark
mark_first b bs = refl

mark_later : (b : Bool) (bs : List Bool) (i : ℕ) → mark (b ∷ bs) (suc i) ≡ mark bs i
unfolding mark
mark_later b bs i = refl

count_empty : (n : ℕ) → count (mark []) n ≡ 0
count_empty n = count_none (mark []) 0 n (omega arith) (λ j l m. mark_none j) ∙ count-zero (mark [])

one_more : (n : ℕ) → pick true 1 0 + n ≡ suc n
unfolding pick
one_more n = omega arith

none_more : (n : ℕ) → pick false 1 0 + n ≡ n
unfolding pick
none_more n = omega arith

pub chosen-length : (bs : List Bool) (xs : List ℕ) → length bs ≡ length xs → length (chosen bs xs) ≡ count (mark bs) (length xs)
unfolding chosen pick
chosen-length [] [] e = sym (count-zero (mark []))
chosen-length [] (x ∷ xs) e = absurd (omega arith)
chosen-length (b ∷ bs) [] e = absurd (omega arith)
chosen-length (true ∷ bs) (x ∷ xs) e = omega (arith, chosen-length bs xs (omega arith), mark_front true bs (length xs))
chosen-length (false ∷ bs) (x ∷ xs) e = omega (arith, chosen-length bs xs (omega arith), mark_front false bs (length xs))

-- a flagged element stands behind as many as are flagged before it
pub chosen_at : (bs : List Bool) (xs : List ℕ) (p : ℕ) → p < length xs → mark bs p ≡ 1 → get_or (chosen bs xs) (count (mark bs) p) 0 ≡ get_or xs p 0
unfolding chosen pick
chosen_at bs [] p l m = absurd (not-suc-le-zero l)
chosen_at [] (x ∷ xs) p l m = absurd (omega (arith, mark_none p))
chosen_at (true ∷ bs) (x ∷ xs) zero l m = rw (count-zero (mark (true ∷ bs)))
chosen_at (false ∷ bs) (x ∷ xs) zero l m = absurd (omega (arith, mark_first false bs))
chosen_at (true ∷ bs) (x ∷ xs) (suc p) l m = rw (mark_front true bs p, one_more (count (mark bs) p)) (chosen_at bs xs p (le_of_suc-le-suc l) (sym (mark_later true bs p) ∙ m))
chosen_at (false ∷ bs) (x ∷ xs) (suc p) l m = rw (mark_front false bs p, none_more (count (mark bs) p)) (chosen_at bs xs p (le_of_suc-le-suc l) (sym (mark_later false bs p) ∙ m))

-- counting what passes is counting its flags
pub count_flags : (t : ℕ → Bool) (xs : List ℕ) (n : ℕ) → n ≤ length xs → howMany t (take n xs) ≡ count (λ (i : ℕ). pick (t (get_or xs i 0)) 1 0) n
unfolding howMany
count_flags t xs zero l = sym (count-zero (λ (i : ℕ). pick (t (get_or xs i 0)) 1 0))
count_flags t [] (suc n) l = absurd (not-suc-le-zero l)
count_flags t (x ∷ xs) (suc n) l = omega (arith, count_flags t xs n (le_of_suc-le-suc l), count_front (λ (i : ℕ). pick (t (get_or (x ∷ xs) i 0)) 1 0) n)

-- ---- the flags of the query, the active and the union

-- the flag of each count
abbrev actives : List ℕ → List Bool
actives counts = map (λ (n : ℕ). ltb 0 n) counts

pub active-chosen : (coords counts : List ℕ) → active coords counts ≡ chosen (actives counts) coords
unfolding active chosen
active-chosen [] [] = refl
active-chosen [] (n ∷ ns) = refl
active-chosen (c ∷ cs) [] = refl
active-chosen (c ∷ cs) (n ∷ ns) = ap (λ (r : List ℕ). pick (ltb 0 n) (c ∷ []) [] ++ r) (active-chosen cs ns)

or-true : (a b c : Bool) → (b ≡ true → c ≡ true) → (a || b) ≡ true → (a || c) ≡ true
or-true true b c f m = refl
or-true false b c f m = f m

or_right : (a b : Bool) → b ≡ true → (a || b) ≡ true
or_right true b e = refl
or_right false b e = e

-- a chosen one is an element
chosen-member : (bs : List Bool) (xs : List ℕ) (h : ℕ) → member h (chosen bs xs) ≡ true → member h xs ≡ true
unfolding chosen member pick
chosen-member [] xs h m = absurd (false≢true m)
chosen-member (b ∷ bs) [] h m = m
chosen-member (true ∷ bs) (x ∷ xs) h m = or-true (eqb h x) (member h (chosen bs xs)) (member h xs) (chosen-member bs xs h) m
chosen-member (false ∷ bs) (x ∷ xs) h m = or_right (eqb h x) (member h xs) (chosen-member bs xs h m)

chosen_strict : (bs : List Bool) (xs : List ℕ) → StrictAsc xs → StrictAsc (chosen bs xs)
unfolding chosen pick
chosen_strict [] xs r = tt
chosen_strict (b ∷ bs) [] r = tt
chosen_strict (true ∷ bs) (x ∷ xs) r =
    (member_all (λ y. x < y) (chosen bs xs) (λ h m. all_member (λ y. x < y) xs r.0 h (chosen-member bs xs h m)), chosen_strict bs xs r.1)
chosen_strict (false ∷ bs) (x ∷ xs) r = chosen_strict bs xs r.1

-- an element is chosen exactly when its flag says so
pub member-chosen : (bs : List Bool) (xs : List ℕ) → StrictAsc xs → (i : ℕ) → i < length xs → member (get_or xs i 0) (chosen bs xs) ≡ get_or bs i false
unfolding chosen member pick
member-chosen bs [] r i l = absurd (not-suc-le-zero l)
member-chosen [] (x ∷ xs) r i l = refl
member-chosen (true ∷ bs) (x ∷ xs) r zero l = rw (eq-eqb x x refl)
member-chosen (false ∷ bs) (x ∷ xs) r zero l = below_all x (chosen bs xs) (member_all (λ y. x < y) (chosen bs xs) (λ h m. all_member (λ y. x < y) xs r.0 h (chosen-member bs xs h m)))
member-chosen (true ∷ bs) (x ∷ xs) r (suc i) l =
    rw (ne_eqb (get_or xs i 0) x (λ e. omega (arith, strict_at (x ∷ xs) r 0 (suc i) (omega arith) l))) (member-chosen bs xs r.1 i (le_of_suc-le-suc l))
member-chosen (false ∷ bs) (x ∷ xs) r (suc i) l = member-chosen bs xs r.1 i (le_of_suc-le-suc l)

-- two tests that pass alike are one
same_test : (a b : Bool) → (a ≡ true → b ≡ true) → (b ≡ true → a ≡ true) → a ≡ b
same_test true b f g = sym (f refl)
same_test false true f g = g refl
same_test false false f g = refl

-- a strictly ascending list whose members are elements of another is what its own flags choose
pub sub_chosen : (xs ys : List ℕ) → StrictAsc xs → StrictAsc ys → ((h : ℕ) → member h ys ≡ true → member h xs ≡ true) → ys ≡ chosen (map (λ (c : ℕ). member c ys) xs) xs
sub_chosen xs ys r s sub = strict_same ys (chosen flags xs) s (chosen_strict flags xs r) (λ h. same_test (member h ys) (member h (chosen flags xs)) (there h) (back h))
  where
    flags : List Bool
    flags = map (λ (c : ℕ). member c ys) xs

    at : (h : ℕ) → member h xs ≡ true → member h (chosen flags xs) ≡ member h ys
    at h m =
        let l = number_fits xs r h m in
        subst (λ (x : ℕ). member x (chosen flags xs) ≡ member x ys) (at_number xs r h m)
        (member-chosen flags xs r (number_of xs h) l ∙ map_at (λ (c : ℕ). member c ys) xs (number_of xs h) 0 false l)

    there : (h : ℕ) → member h ys ≡ true → member h (chosen flags xs) ≡ true
    there h m = at h (sub h m) ∙ m

    back : (h : ℕ) → member h (chosen flags xs) ≡ true → member h ys ≡ true
    back h m = sym (at h (chosen-member flags xs h m)) ∙ m

-- ---- pivot and shared count by ranks are those by hashes

-- of a set with k or more numbers below n, one has k − 1 before it
rank_some : (f : ℕ → ℕ) → ((j : ℕ) → f j ≤ 1) → (n k : ℕ) → 0 < k → k ≤ count f n → (p : ℕ) × (p < n) × (f p ≡ 1) × (count f p + 1 ≡ k)
rank_some f small zero k pos l = absurd (omega (arith, count-zero f))
rank_some f small (suc n) k pos l =
    ⊎_elim (λ (m : k ≤ count f n). let r = rank_some f small n k pos m in (r.0, omega (arith, r.1), r.2, r.3))
    (λ (m : count f n < k). (n, omega arith, omega (arith, small n, count_next f n, add-one n, last), omega (arith, small n, last))) (split k (count f n))
  where
    last : count f (suc n) ≡ count f n + f n
    last = rw (← add-one n) (count_next f n)

    split : (a b : ℕ) → (a ≤ b) ⊎ (b < a)
    split a b = ⊎_elim (λ (m : b < a). inr m) (λ (m : a ≤ b). inl m) (cases_lt b a)

or_elim : (a b c : Bool) → (a ≡ true → c ≡ true) → (b ≡ true → c ≡ true) → (a || b) ≡ true → c ≡ true
or_elim true b c f g m = f refl
or_elim false b c f g m = g m

module _ (query coords counts : List ℕ) (rq : StrictAsc query) (rc : StrictAsc coords) (sub : (h : ℕ) → member h query ≡ true → member h coords ≡ true)
    (lens : length counts ≡ length coords) where
  abbrev ms : List Bool
  ms = marks query coords

  pub length-ms : length ms ≡ length coords
  unfolding marks
  length-ms = length-map coords (λ (c : ℕ). member c query)

  abbrev alive : List ℕ
  alive = active coords counts

  whole : List ℕ
  whole = union query alive

  us : List Bool
  us = map (λ (c : ℕ). member c whole) coords

  alive_at : (i : ℕ) → i < length coords → member (get_or coords i 0) alive ≡ ltb 0 (get_or counts i 0)
  alive_at i l =
      ap (member (get_or coords i 0)) (active-chosen coords counts) ∙ member-chosen (actives counts) coords rc i l ∙
      map_at (λ (n : ℕ). ltb 0 n) counts i 0 false (omega arith)

  mark-ms : (i : ℕ) → i < length coords → mark ms i ≡ pick (member (get_or coords i 0) query) 1 0
  unfolding marks mark
  mark-ms i l = ap (λ (b : Bool). pick {A = ℕ} b 1 0) (map_at (λ (c : ℕ). member c query) coords i 0 false l)

  has_counts : (i : ℕ) → i < length coords → has counts i ≡ pick (member (get_or coords i 0) alive) 1 0
  unfolding is_active
  has_counts i l = rw (alive_at i l) (sym (active_bit counts i))

  mark-us : (i : ℕ) → i < length coords → mark us i ≡ either (mark ms) (has counts) i
  unfolding us whole mark
  mark-us i l =
      ap (λ (b : Bool). pick {A = ℕ} b 1 0) (map_at (λ (c : ℕ). member c whole) coords i 0 false l ∙ member_union (get_or coords i 0) query alive) ∙
      or_bit (member (get_or coords i 0) query) (member (get_or coords i 0) alive) ∙ rw (mark-ms i l, has_counts i l)

  both_at : (i : ℕ) → i < length coords → pick (in_both query alive (get_or coords i 0)) 1 0 ≡ both (mark ms) (has counts) i
  unfolding in_both
  both_at i l = and_bit (member (get_or coords i 0) query) (member (get_or coords i 0) alive) ∙ rw (mark-ms i l, has_counts i l)

  alive_sub : (h : ℕ) → member h alive ≡ true → member h coords ≡ true
  alive_sub h m = chosen-member (actives counts) coords h (sym (ap (member h) (active-chosen coords counts)) ∙ m)

  whole-chosen : whole ≡ chosen us coords
  unfolding us whole
  whole-chosen =
      sub_chosen coords whole rc (strict_union query alive)
      (λ h m. or_elim (member h query) (member h alive) (member h coords) (sub h) (alive_sub h) (sym (member_union h query alive) ∙ m))

  query_chosen : query ≡ chosen ms coords
  unfolding marks
  query_chosen = sub_chosen coords query rc rq sub

  pub size_query : size ms ≡ length query
  unfolding size
  size_query = ap (count (mark ms)) length-ms ∙ sym (chosen-length ms coords length-ms) ∙ ap length (sym query_chosen)

  module _ (p s : ℕ) (a : PivotAt (either (mark ms) (has counts)) (both (mark ms) (has counts)) (size ms) p s) where
    inside : p < length coords
    inside =
        ⊎_elim (λ (l : p < length coords). l)
        (λ (l : length coords ≤ p). absurd (omega (arith, a.on, mark_past ms p (omega (arith, length-ms)), has_past counts p (omega arith)))) (cases_lt p (length coords))

    below_us : (n : ℕ) → n ≤ length coords → count (mark us) n ≡ count (either (mark ms) (has counts)) n
    below_us n l = count_below (either (mark ms) (has counts)) (mark us) n (λ j m. mark-us j (omega arith))

    rank_is : count (mark us) p ≡ length query - 1
    rank_is = omega (arith, below_us p (omega (arith, inside)), a.rank, size_query)

    -- the pivot's hash is the union's k-th smallest
    pub pivot_hash_lem : pivot_hash query alive ≡ get_or coords p 0
    unfolding pivot_hash whole
    pivot_hash_lem =
        ap (λ (r : ℕ). get_or whole r 0) (sym rank_is) ∙ ap (λ (w : List ℕ). get_or w (count (mark us) p) 0) whole-chosen ∙
        chosen_at us coords p inside (mark-us p inside ∙ a.on)

    pub pivot_is : pivot_of query coords counts ≡ p
    unfolding pivot_of
    pivot_is = ap (number_of coords) pivot_hash_lem ∙ number_at coords rc p inside

    through : howMany (in_both query alive) (take (p + 1) coords) ≡ s
    through =
        count_flags (in_both query alive) coords (p + 1) (omega (arith, inside)) ∙
        count_below (both (mark ms) (has counts)) (λ (i : ℕ). pick (in_both query alive (get_or coords i 0)) 1 0) (p + 1) (λ j l. both_at j (omega (arith, inside))) ∙ a.shared

    pub shared_is : shared_of query coords counts ≡ s
    unfolding shared_of
    shared_is = ap (λ (r : ℕ). howMany (in_both query alive) (take (r + 1) coords)) pivot_is ∙ through

    -- and the score
    pub score_is : score query alive ≡ s
    score_is = sym (shared_score query coords counts rq (omega (arith, a.rank, size_query)) rc sub lens) ∙ shared_is

  -- there is a pivot, whatever the counts, where the query is not empty
  pub pivot_some : 0 < length query → (p : ℕ) × (s : ℕ) × PivotAt (either (mark ms) (has counts)) (both (mark ms) (has counts)) (size ms) p s
  unfolding size
  pivot_some l =
      let r =
      rank_some (either (mark ms) (has counts)) (λ j. omega (arith, mark-le ms j, has-le counts j)) (length ms) (size ms) (omega (arith, size_query))
      (count-le (mark ms) (either (mark ms) (has counts)) (length ms) (λ j. omega arith)) in
      (r.0, count (both (mark ms) (has counts)) (r.0 + 1), record { on = r.2; rank = r.3; shared = refl })
