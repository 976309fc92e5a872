-- Where starts never descend, the taken intervals stand in one part of the list: from the first start at or after range start − K to the last at or before
-- range end, of which those are passed over that end at or before range start. So two searches by start find the part. It holds because in an ascending
-- list what is below a bound stands in front.
-- Assumes nothing.
use Prim.Native.Nat.{ℕ, zero, suc, ◌+◌, ◌-◌, ◌≤◌, ◌<◌}
use native.Mathlib.Nat.{sub-zero}
use native.Mathlib.Omega.{arith}
use mathlib.Core.Path.{◌≡◌, refl, sym, ap, ◌∙◌}
use mathlib.Core.Logic.{⊎_elim}
use mathlib.Core.Bool.{Bool, true, false, ◌&&◌}
use mathlib.Core.List.{List, [], ◌∷◌, map}
use lib.ListN.{length, take, drop}
use lib.Dec.{ltb, leb}
use borrow.Author.Tests.{lt-ltb, le-ltb, le-leb, lt-leb}
use Rattle.base.specs.Pick.{pick}
use Rattle.base.specs.Lists.{Asc}
use Rattle.base.proofs.Lists.{all_map}
use Rattle.std.proofs.lemmas.Bool.{cases_lt}
use Rattle.rules.specs.Lists.{filter}
use Rattle.rules.specs.Score.{number_of}
use Rattle.rules.specs.Sweep.{Sweep}
use Rattle.rules.specs.Interval.{Interval, kmers_per_start, intervals_of, is_taken, taken}
use Rattle.rules.proofs.Score.{cases, none_below, number_later, number_skip}

-- the elements of an ascending list with a key from a to below b stand together
pub between_part : {A : Type 0} (key : A → ℕ) (a b : ℕ) (xs : List A) → Asc (map key xs) → filter (λ x. leb a (key x) && ltb (key x) b) xs ≡ take (number_of (map key xs) b - number_of (map key xs) a) (drop (number_of (map key xs) a) xs)
unfolding filter pick
between_part key a b [] r = rw (none_below a [] tt, none_below b [] tt)
between_part {A} key a b (x ∷ xs) r =
    let rest = between_part key a b xs r.1 in
    let none : (v : ℕ) → v ≤ key x → number_of (map key xs) v ≡ 0 = λ v l.
    none_below v (map key xs) (all_map (λ y. key x ≤ y) (λ y. v ≤ y) (λ y m. omega arith) (map key xs) r.0) in
    ⊎_elim (λ (l : key x < a).
    let size : number_of (key x ∷ map key xs) b - number_of (key x ∷ map key xs) a ≡ number_of (map key xs) b - number_of (map key xs) a =
    ⊎_elim (λ (m : key x < b). omega (arith, number_later (key x) b (map key xs) m, number_later (key x) a (map key xs) l))
    (λ (m : b ≤ key x). omega (arith, number_skip (key x) b (map key xs) m, none b m)) (cases_lt (key x) b) in
    rw (size, number_later (key x) a (map key xs) l, lt-leb a (key x) l) rest)
    (λ (l : a ≤ key x).
    rw (number_skip (key x) a (map key xs) l, le-leb a (key x) l, none a l)
    (⊎_elim (λ (m : key x < b).
    rw (number_later (key x) b (map key xs) m, lt-ltb (key x) b m, sub-zero) (ap (λ (zs : List A). x ∷ zs) (rw (none a l, sub-zero) at rest)))
    (λ (m : b ≤ key x). rw (number_skip (key x) b (map key xs) m, none b m, le-ltb (key x) b m) (rw (none a l, none b m) at rest)) (cases_lt (key x) b)))
    (cases_lt (key x) a)

filter_same : {A : Type 0} (t u : A → Bool) → ((x : A) → t x ≡ u x) → (xs : List A) → filter t xs ≡ filter u xs
unfolding filter
filter_same t u e [] = refl
filter_same t u e (x ∷ xs) = rw (e x, filter_same t u e xs)

filter_both : {A : Type 0} (t u : A → Bool) (xs : List A) → filter (λ x. t x && u x) xs ≡ filter u (filter t xs)
unfolding filter pick
filter_both t u [] = refl
filter_both t u (x ∷ xs) =
    ⊎_elim (λ (e : t x ≡ true). rw (e, filter_both t u xs)) (λ (e : t x ≡ false). rw e (filter_both t u xs)) (cases (t x))

abbrev pub starts_of : List Interval → List ℕ
starts_of is = map (λ (i : Interval). i.start) is

pub starts_are : (hs ss es : List ℕ) → length ss ≡ length hs → length es ≡ length hs → starts_of (intervals_of hs ss es) ≡ ss
unfolding intervals_of
starts_are [] [] es l m = refl
starts_are [] (p ∷ ss) es l m = absurd (omega arith)
starts_are (h ∷ hs) [] es l m = absurd (omega arith)
starts_are (h ∷ hs) (p ∷ ss) [] l m = absurd (omega arith)
starts_are (h ∷ hs) (p ∷ ss) (e ∷ es) l m = ap (λ (ps : List ℕ). p ∷ ps) (starts_are hs ss es (omega arith) (omega arith))

le_as_lt : (a b : ℕ) → leb a b ≡ ltb a (b + 1)
le_as_lt a b =
    ⊎_elim (λ (l : a < b + 1). le-leb a b (omega arith) ∙ sym (lt-ltb a (b + 1) l)) (λ (l : b + 1 ≤ a). lt-leb a b (omega arith) ∙ sym (le-ltb a (b + 1) l)) (cases_lt a (b + 1))

-- where the part begins and ends
abbrev pub taken_from : Sweep → ℕ
taken_from s = number_of s.starts (s.range.start - kmers_per_start s)

abbrev pub taken_to : Sweep → ℕ
taken_to s = number_of s.starts (s.range.end + 1)

pub taken_part : (s : Sweep) → length s.starts ≡ length s.hashes → length s.ends ≡ length s.hashes → Asc s.starts → taken s ≡ filter (λ (i : Interval). ltb s.range.start i.end) (take (taken_to s - taken_from s) (drop (taken_from s) (intervals_of s.hashes s.starts s.ends)))
unfolding taken is_taken
taken_part s l m r =
    let is = intervals_of s.hashes s.starts s.ends in
    let same : starts_of is ≡ s.starts = starts_are s.hashes s.starts s.ends l m in
    let lo = s.range.start - kmers_per_start s in
    filter_both (λ (i : Interval). leb lo i.start && leb i.start s.range.end) (λ i. ltb s.range.start i.end) is ∙
    ap (filter (λ (i : Interval). ltb s.range.start i.end))
    (filter_same (λ (i : Interval). leb lo i.start && leb i.start s.range.end) (λ (i : Interval). leb lo i.start && ltb i.start (s.range.end + 1))
    (λ i. ap (λ (t : Bool). leb lo i.start && t) (le_as_lt i.start s.range.end)) is ∙
    rw same at (between_part (λ (i : Interval). i.start) lo (s.range.end + 1) is (rw same r)))

-- a part of the intervals is the intervals of the parts

intervals_take : (n : ℕ) (hs ss es : List ℕ) → take n (intervals_of hs ss es) ≡ intervals_of (take n hs) (take n ss) (take n es)
unfolding intervals_of
intervals_take zero hs ss es = refl
intervals_take (suc n) [] ss es = refl
intervals_take (suc n) (h ∷ hs) [] es = refl
intervals_take (suc n) (h ∷ hs) (p ∷ ss) [] = refl
intervals_take (suc n) (h ∷ hs) (p ∷ ss) (e ∷ es) = ap (λ (is : List Interval). record { hash = h; start = p; end = e } ∷ is) (intervals_take n hs ss es)

no_starts : (hs es : List ℕ) → intervals_of hs [] es ≡ []
unfolding intervals_of
no_starts [] es = refl
no_starts (h ∷ hs) es = refl

no_ends : (hs ss : List ℕ) → intervals_of hs ss [] ≡ []
unfolding intervals_of
no_ends [] ss = refl
no_ends (h ∷ hs) [] = refl
no_ends (h ∷ hs) (p ∷ ss) = refl

intervals_drop : (n : ℕ) (hs ss es : List ℕ) → drop n (intervals_of hs ss es) ≡ intervals_of (drop n hs) (drop n ss) (drop n es)
unfolding intervals_of
intervals_drop zero hs ss es = refl
intervals_drop (suc n) [] ss es = refl
intervals_drop (suc n) (h ∷ hs) [] es = sym (no_starts (drop n hs) (drop (suc n) es))
intervals_drop (suc n) (h ∷ hs) (p ∷ ss) [] = sym (no_ends (drop n hs) (drop n ss))
intervals_drop (suc n) (h ∷ hs) (p ∷ ss) (e ∷ es) = intervals_drop n hs ss es

pub intervals_part : (n m : ℕ) (hs ss es : List ℕ) → take n (drop m (intervals_of hs ss es)) ≡ intervals_of (take n (drop m hs)) (take n (drop m ss)) (take n (drop m es))
intervals_part n m hs ss es = ap (take n) (intervals_drop m hs ss es) ∙ intervals_take n (drop m hs) (drop m ss) (drop m es)
