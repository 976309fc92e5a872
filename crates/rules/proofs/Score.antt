-- The laws of the score. The union is the one list that ascends strictly and has the members of both, so that a score asks only which hashes
-- are active, not how often or in which order they are listed. A hash's coordinate number is its place in such a list, so that what is counted by
-- coordinate numbers through the pivot is the score.
-- Assumes nothing.
use Prim.Native.Nat.{ℕ, zero, suc, ◌+◌, ◌-◌, ◌≤◌, ◌<◌}
use native.Mathlib.Nat.{le_of_suc-le-suc, not-suc-le-zero, suc-add, zero-add}
use native.Mathlib.Omega.{arith}
use mathlib.Core.Path.{◌≡◌, refl, sym, ap, subst, ◌∙◌}
use mathlib.Core.Logic.{◌⊎◌, inl, inr, ⊎_elim, ◌≢◌}
use mathlib.Core.Bool.{Bool, true, false, ◌||◌, ◌&&◌, false≢true, and-eq-true_iff, and-true, and-false, or-false, or_self_left}
use mathlib.Core.List.{List, [], ◌∷◌, ◌++◌}
use lib.ListN.{length, take, get_or, length-append, length-take}
use lib.Dec.{ltb, leb, eqb}
use borrow.Author.Tests.{ltb-true, ltb-false, eqb-true, eqb-false, lt-ltb, le-ltb, le-leb, lt-leb, eq-eqb, ne_eqb}
use Rattle.base.specs.Pick.{pick}
use Rattle.base.specs.Lists.{All, StrictAsc, times}
use Rattle.base.specs.Sort.{sort_of}
use Rattle.base.proofs.Lists.{all_map, hit_same, hit_other}
use Rattle.std.proofs.lemmas.Bool.{cases_eq, cases_lt}
use Rattle.base.proofs.Sort.{times_sort, strict_unique}
use Rattle.rules.specs.Lists.{member, count, filter}
use Rattle.rules.specs.Score.{add, ascending, union, in_both, score, number_of, pivot_hash}
use Rattle.rules.specs.Script.{active, pivot_of, shared_of}

pub cases : (t : Bool) → (t ≡ true) ⊎ (t ≡ false)
cases true = inl refl
cases false = inr refl

-- ---- members

pub member-append : (h : ℕ) (xs ys : List ℕ) → member h (xs ++ ys) ≡ (member h xs || member h ys)
unfolding member
member-append h [] ys = refl
member-append h (x ∷ xs) ys = ⊎_elim (λ (e : eqb h x ≡ true). rw e) (λ (e : eqb h x ≡ false). rw e (member-append h xs ys)) (cases (eqb h x))

pub all_member : (P : ℕ → Type 0) (xs : List ℕ) → All P xs → (h : ℕ) → member h xs ≡ true → P h
unfolding member
all_member P [] a h m = absurd (false≢true m)
all_member P (x ∷ xs) a h m =
    ⊎_elim (λ (e : eqb h x ≡ true). subst P (sym (eqb-true h x e)) a.0) (λ (e : eqb h x ≡ false). all_member P xs a.1 h (rw e at m)) (cases (eqb h x))

pub member_all : (P : ℕ → Type 0) (xs : List ℕ) → ((h : ℕ) → member h xs ≡ true → P h) → All P xs
unfolding member
member_all P [] f = tt
member_all P (x ∷ xs) f =
    (f x (rw (eq-eqb x x refl)), member_all P xs (λ h m. f h (⊎_elim (λ (e : eqb h x ≡ true). rw e) (λ (e : eqb h x ≡ false). rw e m) (cases (eqb h x)))))

pub get_or-member : (xs : List ℕ) (i : ℕ) → i < length xs → member (get_or xs i 0) xs ≡ true
unfolding member
get_or-member [] i l = absurd (not-suc-le-zero l)
get_or-member (x ∷ xs) zero l = rw (eq-eqb x x refl)
get_or-member (x ∷ xs) (suc i) l =
    ⊎_elim (λ (e : eqb (get_or xs i 0) x ≡ true). rw e) (λ (e : eqb (get_or xs i 0) x ≡ false). rw e (get_or-member xs i (le_of_suc-le-suc l))) (cases (eqb (get_or xs i 0) x))

-- what lies below all of a list is no member
pub below_all : (h : ℕ) (xs : List ℕ) → All (λ y. h < y) xs → member h xs ≡ false
below_all h xs a = ⊎_elim (λ (e : member h xs ≡ true). absurd (omega (arith, all_member (λ y. h < y) xs a h e))) (λ (e : member h xs ≡ false). e) (cases (member h xs))

-- a member stands there at least once
pub member-times : (h : ℕ) (xs : List ℕ) → member h xs ≡ ltb 0 (times h xs)
unfolding member times
member-times h [] = refl
member-times h (x ∷ xs) =
    ⊎_elim (λ (e : h ≡ x). rw (← e, eq-eqb h h refl, hit_same h) (sym (lt-ltb 0 (1 + times h xs) (omega arith))))
    (λ (n : h ≢ x). rw (ne_eqb h x n, hit_other h x n, zero-add) (member-times h xs)) (cases_eq h x)

-- sorting keeps the members
pub member_sort : (h : ℕ) (xs : List ℕ) → member h (sort_of xs) ≡ member h xs
member_sort h xs = member-times h (sort_of xs) ∙ ap (ltb 0) (times_sort h xs) ∙ sym (member-times h xs)

-- ---- counting and filtering

-- the same number of elements pass two tests that agree
pub count_same : {A : Type 0} (t u : A → Bool) → ((x : A) → t x ≡ u x) → (xs : List A) → count t xs ≡ count u xs
unfolding count
count_same t u e [] = refl
count_same t u e (x ∷ xs) = rw (e x, count_same t u e xs)

pub count-append : {A : Type 0} (t : A → Bool) (xs ys : List A) → count t (xs ++ ys) ≡ count t xs + count t ys
unfolding count
count-append t [] ys = omega arith
count-append t (x ∷ xs) ys = omega (arith, count-append t xs ys)

pub count_most : {A : Type 0} (t : A → Bool) (xs : List A) → count t xs ≤ length xs
unfolding count pick
count_most t [] = omega arith
count_most t (x ∷ xs) =
    ⊎_elim (λ (e : t x ≡ true). rw e (omega (arith, count_most t xs))) (λ (e : t x ≡ false). rw e (omega (arith, count_most t xs))) (cases (t x))

pub count-filter : {A : Type 0} (t : A → Bool) (xs : List A) → count t xs ≡ length (filter t xs)
unfolding count filter pick
count-filter t [] = refl
count-filter t (x ∷ xs) =
    ⊎_elim (λ (e : t x ≡ true). rw (e, count-filter t xs) (omega arith)) (λ (e : t x ≡ false). rw (e, count-filter t xs) (omega arith)) (cases (t x))

pub length-filter : {A : Type 0} (t : A → Bool) (xs : List A) → length (filter t xs) ≤ length xs
length-filter t xs = omega (arith, count-filter t xs, count_most t xs)

pub member_filter : (t : ℕ → Bool) (h : ℕ) (xs : List ℕ) → member h (filter t xs) ≡ (t h && member h xs)
unfolding member filter pick
member_filter t h [] = sym (and-false (t h))
member_filter t h (x ∷ xs) =
    ⊎_elim (λ (f : eqb h x ≡ true). let same : h ≡ x = eqb-true h x f in ⊎_elim (λ (e : t x ≡ true). rw (e, f, same, e)) (λ (e : t x ≡ false). rw (e, member_filter t h xs, same, e)) (cases (t x)))
    (λ (f : eqb h x ≡ false). ⊎_elim (λ (e : t x ≡ true). rw (e, f) (member_filter t h xs)) (λ (e : t x ≡ false). rw (e, f) (member_filter t h xs)) (cases (t x)))
    (cases (eqb h x))

all_filter : (P : ℕ → Type 0) (t : ℕ → Bool) (xs : List ℕ) → All P xs → All P (filter t xs)
unfolding filter pick
all_filter P t [] a = tt
all_filter P t (x ∷ xs) a = ⊎_elim (λ (e : t x ≡ true). rw e (a.0, all_filter P t xs a.1)) (λ (e : t x ≡ false). rw e (all_filter P t xs a.1)) (cases (t x))

pub strict_filter : (t : ℕ → Bool) (xs : List ℕ) → StrictAsc xs → StrictAsc (filter t xs)
unfolding filter pick
strict_filter t [] r = tt
strict_filter t (x ∷ xs) r =
    ⊎_elim (λ (e : t x ≡ true). rw e (all_filter (λ y. x < y) t xs r.0, strict_filter t xs r.1)) (λ (e : t x ≡ false). rw e (strict_filter t xs r.1)) (cases (t x))

-- ---- ascending

or_swap : (a b c : Bool) → (a || (b || c)) ≡ (b || (a || c))
or_swap true true c = refl
or_swap true false c = refl
or_swap false b c = refl

member-add : (h g : ℕ) (xs : List ℕ) → member h (add g xs) ≡ (eqb h g || member h xs)
unfolding member add pick
member-add h g [] = refl
member-add h g (x ∷ xs) =
    ⊎_elim (λ (e : ltb g x ≡ true). rw e)
    (λ (e : ltb g x ≡ false).
    rw e
    (⊎_elim (λ (f : eqb g x ≡ true). rw (f, eqb-true g x f) (sym (or_self_left (eqb h x) (member h xs))))
    (λ (f : eqb g x ≡ false). rw (f, member-add h g xs) (or_swap (eqb h x) (eqb h g) (member h xs))) (cases (eqb g x)))) (cases (ltb g x))

pub member-ascending : (h : ℕ) (xs : List ℕ) → member h (ascending xs) ≡ member h xs
unfolding member ascending
member-ascending h [] = refl
member-ascending h (x ∷ xs) = member-add h x (ascending xs) ∙ ap (λ (t : Bool). eqb h x || t) (member-ascending h xs)

all_add : (P : ℕ → Type 0) (g : ℕ) (xs : List ℕ) → P g → All P xs → All P (add g xs)
unfolding add pick
all_add P g [] p a = (p, tt)
all_add P g (x ∷ xs) p a =
    ⊎_elim (λ (e : ltb g x ≡ true). rw e (p, a))
    (λ (e : ltb g x ≡ false). rw e (⊎_elim (λ (f : eqb g x ≡ true). rw f a) (λ (f : eqb g x ≡ false). rw f (a.0, all_add P g xs p a.1)) (cases (eqb g x))))
    (cases (ltb g x))

strict_add : (g : ℕ) (xs : List ℕ) → StrictAsc xs → StrictAsc (add g xs)
unfolding add pick
strict_add g [] r = (tt, tt)
strict_add g (x ∷ xs) r =
    ⊎_elim (λ (e : ltb g x ≡ true). rw e ((ltb-true g x e, all_map (λ y. x < y) (λ y. g < y) (λ y l. omega (arith, ltb-true g x e)) xs r.0), r))
    (λ (e : ltb g x ≡ false).
    rw e
    (⊎_elim (λ (f : eqb g x ≡ true). rw f r)
    (λ (f : eqb g x ≡ false). rw f (all_add (λ y. x < y) g xs (omega (arith, ltb-false g x e, eqb-false g x f)) r.0, strict_add g xs r.1)) (cases (eqb g x))))
    (cases (ltb g x))

pub strict_ascending : (xs : List ℕ) → StrictAsc (ascending xs)
unfolding ascending
strict_ascending [] = tt
strict_ascending (x ∷ xs) = strict_add x (ascending xs) (strict_ascending xs)

length-add : (g : ℕ) (xs : List ℕ) → length (add g xs) ≤ suc (length xs)
unfolding add pick
length-add g [] = omega arith
length-add g (x ∷ xs) =
    ⊎_elim (λ (e : ltb g x ≡ true). rw e (omega arith))
    (λ (e : ltb g x ≡ false). rw e (⊎_elim (λ (f : eqb g x ≡ true). rw f (omega arith)) (λ (f : eqb g x ≡ false). rw f (omega (arith, length-add g xs))) (cases (eqb g x))))
    (cases (ltb g x))

pub length-ascending : (xs : List ℕ) → length (ascending xs) ≤ length xs
unfolding ascending
length-ascending [] = omega arith
length-ascending (x ∷ xs) = omega (arith, length-add x (ascending xs), length-ascending xs)

-- ---- two strictly ascending lists with the same members are one

pub strict_same : (xs ys : List ℕ) → StrictAsc xs → StrictAsc ys → ((h : ℕ) → member h xs ≡ member h ys) → xs ≡ ys
strict_same xs ys r s e = strict_unique xs ys r s (λ h l. stands xs ys h (e h) l) (λ h l. stands ys xs h (sym (e h)) l)
  where
    stands : (us vs : List ℕ) (h : ℕ) → member h us ≡ member h vs → 0 < times h us → 0 < times h vs
    stands us vs h f l = ltb-true 0 (times h vs) (sym (member-times h vs) ∙ sym f ∙ member-times h us ∙ lt-ltb 0 (times h us) l)

-- ---- the score asks only which hashes are active

pub strict_union : (query active : List ℕ) → StrictAsc (union query active)
unfolding union
strict_union query active = strict_ascending (query ++ active)

pub member_union : (h : ℕ) (query active : List ℕ) → member h (union query active) ≡ (member h query || member h active)
unfolding union
member_union h query active = member-ascending h (query ++ active) ∙ member-append h query active

pub union_left : (h : ℕ) (query active : List ℕ) → member h query ≡ true → member h (union query active) ≡ true
union_left h query active m = member_union h query active ∙ rw m

pub length_union : (query active : List ℕ) → length (union query active) ≤ length query + length active
unfolding union
length_union query active = omega (arith, length-ascending (query ++ active), length-append query active)

-- no score passes the number of query hashes
pub score_most : (query active : List ℕ) → score query active ≤ length query
unfolding score
score_most query active =
    omega (arith, count_most (in_both query active) (take (length query) (union query active)), length-take (length query) (union query active))

module _ (query a b : List ℕ) (e : (h : ℕ) → member h a ≡ member h b) where
  pub union_same : union query a ≡ union query b
  union_same =
      strict_same (union query a) (union query b) (strict_union query a) (strict_union query b)
      (λ h. member_union h query a ∙ ap (λ (t : Bool). member h query || t) (e h) ∙ sym (member_union h query b))

  pub score_same : score query a ≡ score query b
  unfolding score in_both
  score_same =
      ap (λ (u : List ℕ). count (in_both query a) (take (length query) u)) union_same ∙
      count_same (in_both query a) (in_both query b) (λ h. ap (λ (t : Bool). member h query && t) (e h)) (take (length query) (union query b))

  pub pivot_same : pivot_hash query a ≡ pivot_hash query b
  unfolding pivot_hash
  pivot_same = ap (λ (u : List ℕ). get_or u (length query - 1) 0) union_same

-- ---- the coordinate number of a hash is its place

pub none_below : (h : ℕ) (cs : List ℕ) → All (λ c. h ≤ c) cs → number_of cs h ≡ 0
unfolding number_of count pick
none_below h [] a = refl
none_below h (c ∷ cs) a = rw (le-ltb c h a.0) (omega (arith, none_below h cs a.1))

-- a member is the first of a strictly ascending list, or lies above it
pub first_or_later : (c : ℕ) (cs : List ℕ) → StrictAsc (c ∷ cs) → (h : ℕ) → member h (c ∷ cs) ≡ true → (h ≡ c) ⊎ ((c < h) × (member h cs ≡ true))
unfolding member
first_or_later c cs r h m =
    ⊎_elim (λ (e : eqb h c ≡ true). inl (eqb-true h c e))
    (λ (e : eqb h c ≡ false).
    let later : member h cs ≡ true = rw e at m in
    inr (all_member (λ y. c < y) cs r.0 h later, later)) (cases (eqb h c))

pub number_first : (c : ℕ) (cs : List ℕ) → StrictAsc (c ∷ cs) → number_of (c ∷ cs) c ≡ 0
unfolding number_of count pick
number_first c cs r = none_below c (c ∷ cs) (omega arith, all_map (λ y. c < y) (λ y. c ≤ y) (λ y l. omega arith) cs r.0)

pub number_later : (c h : ℕ) (cs : List ℕ) → c < h → number_of (c ∷ cs) h ≡ suc (number_of cs h)
unfolding number_of count pick
number_later c h cs l = rw (lt-ltb c h l) (omega arith)

pub number_skip : (c h : ℕ) (cs : List ℕ) → h ≤ c → number_of (c ∷ cs) h ≡ number_of cs h
unfolding number_of count pick
number_skip c h cs l = rw (le-ltb c h l) (omega arith)

pub at_number : (cs : List ℕ) → StrictAsc cs → (h : ℕ) → member h cs ≡ true → get_or cs (number_of cs h) 0 ≡ h
unfolding member
at_number [] r h m = absurd (false≢true m)
at_number (c ∷ cs) r h m =
    ⊎_elim (λ (e : h ≡ c). rw (e, number_first c cs r)) (λ l. rw (number_later c h cs l.0) (at_number cs r.1 h l.1)) (first_or_later c cs r h m)

pub number_fits : (cs : List ℕ) → StrictAsc cs → (h : ℕ) → member h cs ≡ true → number_of cs h < length cs
unfolding member
number_fits [] r h m = absurd (false≢true m)
number_fits (c ∷ cs) r h m =
    ⊎_elim (λ (e : h ≡ c). rw (e, number_first c cs r) (omega arith)) (λ l. omega (arith, number_later c h cs l.0, number_fits cs r.1 h l.1))
    (first_or_later c cs r h m)

pub number_at : (cs : List ℕ) → StrictAsc cs → (i : ℕ) → i < length cs → number_of cs (get_or cs i 0) ≡ i
number_at [] r i l = absurd (not-suc-le-zero l)
number_at (c ∷ cs) r zero l = number_first c cs r
number_at (c ∷ cs) r (suc i) l =
    let above : c < get_or cs i 0 = all_member (λ y. c < y) cs r.0 (get_or cs i 0) (get_or-member cs i (le_of_suc-le-suc l)) in
    number_later c (get_or cs i 0) cs above ∙ ap suc (number_at cs r.1 i (le_of_suc-le-suc l))

-- numbers tell members apart, and keep their order
pub number_only : (cs : List ℕ) → StrictAsc cs → (g h : ℕ) → member g cs ≡ true → member h cs ≡ true → number_of cs g ≡ number_of cs h → g ≡ h
number_only cs r g h m n e = sym (at_number cs r g m) ∙ ap (λ (i : ℕ). get_or cs i 0) e ∙ at_number cs r h n

pub number_order : (cs : List ℕ) → StrictAsc cs → (g h : ℕ) → member g cs ≡ true → g < h → number_of cs g < number_of cs h
unfolding member
number_order [] r g h m l = absurd (false≢true m)
number_order (c ∷ cs) r g h m l =
    ⊎_elim (λ (e : g ≡ c). rw (e, number_first c cs r) (omega (arith, number_later c h cs (rw e at l))))
    (λ k. omega (arith, number_later c g cs k.0, number_later c h cs (omega (arith, k.0)), number_order cs r.1 g h k.1 l)) (first_or_later c cs r g m)

-- a greater hash has no lesser number, and no number passes the coordinates
pub number_up : (cs : List ℕ) (g h : ℕ) → g ≤ h → number_of cs g ≤ number_of cs h
unfolding number_of count
number_up [] g h l = omega arith
number_up (c ∷ cs) g h l =
    let rest = number_up cs g h l in
    ⊎_elim (λ (a : c < g). omega (arith, number_later c g cs a, number_later c h cs (omega arith)))
    (λ (a : g ≤ c).
    ⊎_elim (λ (b : c < h). omega (arith, number_skip c g cs a, number_later c h cs b)) (λ (b : h ≤ c). omega (arith, number_skip c g cs a, number_skip c h cs b)) (cases_lt c h)) (cases_lt c g)

pub number_most : (cs : List ℕ) (h : ℕ) → number_of cs h ≤ length cs
unfolding number_of
number_most cs h = count_most (λ c. ltb c h) cs

-- ---- the score by coordinate numbers

-- a list within another is no longer
pub strict_within : (xs ys : List ℕ) → StrictAsc xs → StrictAsc ys → ((h : ℕ) → member h xs ≡ true → member h ys ≡ true) → length xs ≤ length ys
strict_within xs ys r s f =
    let inside : ℕ → Bool = λ h. member h xs in
    let same : xs ≡ filter inside ys = strict_same xs (filter inside ys) r (strict_filter inside ys s)
    (λ h. sym (member_filter inside h ys ∙ ⊎_elim (λ (m : member h xs ≡ true). rw (m, f h m)) (λ (m : member h xs ≡ false). rw m) (cases (member h xs)))) in
    omega (arith, ap length same, length-filter inside ys)

filter_none : (h : ℕ) (xs : List ℕ) → All (λ y. h < y) xs → filter (λ c. leb c h) xs ≡ []
unfolding filter pick
filter_none h [] a = refl
filter_none h (x ∷ xs) a = rw (lt-leb x h a.0) (filter_none h xs a.1)

-- as many as are at most a member are those at most it
pub take_number : (cs : List ℕ) → StrictAsc cs → (h : ℕ) → member h cs ≡ true → take (number_of cs h + 1) cs ≡ filter (λ c. leb c h) cs
unfolding member filter pick
take_number [] r h m = absurd (false≢true m)
take_number (c ∷ cs) r h m =
    ⊎_elim
    (λ (e : h ≡ c).
    subst (λ (k : ℕ). take (number_of (c ∷ cs) k + 1) (c ∷ cs) ≡ filter (λ x. leb x k) (c ∷ cs)) (sym e)
    (rw (number_first c cs r, le-leb c c (omega arith), filter_none c cs r.0)))
    (λ l.
    rw (number_later c h cs l.0, suc-add (number_of cs h) 1, le-leb c h (omega (arith, l.0)))
    (ap (λ (zs : List ℕ). c ∷ zs) (take_number cs r.1 h l.1))) (first_or_later c cs r h m)

module _ (query ref coords : List ℕ) (strict_query : StrictAsc query) (some : 0 < length query) (strict_coords : StrictAsc coords)
    (query_in : (h : ℕ) → member h query ≡ true → member h coords ≡ true) (ref_in : (h : ℕ) → member h ref ≡ true → member h coords ≡ true) where
  union_coords : (h : ℕ) → member h (union query ref) ≡ true → member h coords ≡ true
  union_coords h m =
      let either : (member h query || member h ref) ≡ true = sym (member_union h query ref) ∙ m in
      ⊎_elim (λ (q : member h query ≡ true). query_in h q) (λ (q : member h query ≡ false). ref_in h (rw q at either)) (cases (member h query))

  -- the pivot's place in the union
  pub union_long : length query ≤ length (union query ref)
  union_long = strict_within query (union query ref) strict_query (strict_union query ref) (λ h. union_left h query ref)

  pub pivot_member : member (pivot_hash query ref) (union query ref) ≡ true
  unfolding pivot_hash
  pivot_member = get_or-member (union query ref) (length query - 1) (omega (arith, union_long))

  pub pivot_number : number_of (union query ref) (pivot_hash query ref) + 1 ≡ length query
  unfolding pivot_hash
  pivot_number = omega (arith, number_at (union query ref) (strict_union query ref) (length query - 1) (omega (arith, union_long)))

  pub pivot_coord : member (pivot_hash query ref) coords ≡ true
  pivot_coord = union_coords (pivot_hash query ref) pivot_member

  -- those in both, at most the pivot
  lowest : List ℕ → List ℕ
  lowest xs = filter (in_both query ref) (filter (λ c. leb c (pivot_hash query ref)) xs)

  member-lowest : (xs : List ℕ) → ((h : ℕ) → member h query ≡ true → member h xs ≡ true) → (h : ℕ) → member h (lowest xs) ≡ (in_both query ref h && leb h (pivot_hash query ref))
  unfolding lowest in_both
  member-lowest xs f h =
      member_filter (in_both query ref) h (filter (λ c. leb c (pivot_hash query ref)) xs) ∙
      rw (member_filter (λ c. leb c (pivot_hash query ref)) h xs)
      (⊎_elim (λ (m : member h query ≡ true). rw (m, f h m, and-true)) (λ (m : member h query ≡ false). rw m) (cases (member h query)))

  strict_lowest : (xs : List ℕ) → StrictAsc xs → StrictAsc (lowest xs)
  unfolding lowest
  strict_lowest xs r = strict_filter (in_both query ref) (filter (λ c. leb c (pivot_hash query ref)) xs) (strict_filter (λ c. leb c (pivot_hash query ref)) xs r)

  count-lowest : (xs : List ℕ) → StrictAsc xs → member (pivot_hash query ref) xs ≡ true → count (in_both query ref) (take (number_of xs (pivot_hash query ref) + 1) xs) ≡ length (lowest xs)
  unfolding lowest
  count-lowest xs r m = rw (take_number xs r (pivot_hash query ref) m) (count-filter (in_both query ref) (filter (λ c. leb c (pivot_hash query ref)) xs))

  -- the coordinates through the pivot hold as many hashes in both as the union's k smallest
  pub score_coords : count (in_both query ref) (take (number_of coords (pivot_hash query ref) + 1) coords) ≡ score query ref
  unfolding score
  score_coords =
      count-lowest coords strict_coords pivot_coord ∙
      ap length (strict_same (lowest coords) (lowest (union query ref)) (strict_lowest coords strict_coords) (strict_lowest (union query ref) (strict_union query ref))
      (λ h. member-lowest coords query_in h ∙ sym (member-lowest (union query ref) (λ g. union_left g query ref) h))) ∙
      sym (count-lowest (union query ref) (strict_union query ref) pivot_member) ∙
      ap (λ (n : ℕ). count (in_both query ref) (take n (union query ref))) pivot_number

-- ---- the active hashes, by the counts

member-pick : (h c : ℕ) (t : Bool) (xs : List ℕ) → member h (pick t (c ∷ []) [] ++ xs) ≡ (eqb h c && t || member h xs)
unfolding member pick
member-pick h c true xs = ⊎_elim (λ (e : eqb h c ≡ true). rw e) (λ (e : eqb h c ≡ false). rw e) (cases (eqb h c))
member-pick h c false xs = rw (and-false (eqb h c))

pub member-active : (h : ℕ) (cs ns : List ℕ) → StrictAsc cs → length ns ≡ length cs → member h (active cs ns) ≡ (member h cs && ltb 0 (get_or ns (number_of cs h) 0))
unfolding active member
member-active h [] ns r l = refl
member-active h (c ∷ cs) [] r l = absurd (omega arith)
member-active h (c ∷ cs) (n ∷ ns) r l =
    member-pick h c (ltb 0 n) (active cs ns) ∙ rw (member-active h cs ns r.1 (omega arith))
    (⊎_elim (λ (e : eqb h c ≡ true). let hc : h ≡ c = eqb-true h c e in rw (e, hc, number_first c cs r, below_all c cs r.0) (or-false (ltb 0 n)))
    (λ (e : eqb h c ≡ false). rw e (⊎_elim (λ (m : member h cs ≡ true). rw (m, number_later c h cs (all_member (λ y. c < y) cs r.0 h m))) (λ (m : member h cs ≡ false). rw m) (cases (member h cs)))) (cases (eqb h c)))

module _ (query coords counts : List ℕ) (strict_query : StrictAsc query) (some : 0 < length query) (strict_coords : StrictAsc coords)
    (query_in : (h : ℕ) → member h query ≡ true → member h coords ≡ true) (sized : length counts ≡ length coords) where
  active_in : (h : ℕ) → member h (active coords counts) ≡ true → member h coords ≡ true
  active_in h m = ((and-eq-true_iff (member h coords) (ltb 0 (get_or counts (number_of coords h) 0))).0 (sym (member-active h coords counts strict_coords sized) ∙ m)).0

  -- what is counted by coordinate numbers is the score
  pub shared_score : shared_of query coords counts ≡ score query (active coords counts)
  unfolding shared_of pivot_of
  shared_score = score_coords query (active coords counts) coords strict_query some strict_coords query_in active_in

  pub pivot_fits : pivot_of query coords counts < length coords
  unfolding pivot_of
  pivot_fits =
      number_fits coords strict_coords (pivot_hash query (active coords counts)) (pivot_coord query (active coords counts) coords strict_query some strict_coords query_in active_in)

  pub pivot_at : get_or coords (pivot_of query coords counts) 0 ≡ pivot_hash query (active coords counts)
  unfolding pivot_of
  pivot_at =
      at_number coords strict_coords (pivot_hash query (active coords counts)) (pivot_coord query (active coords counts) coords strict_query some strict_coords query_in active_in)
