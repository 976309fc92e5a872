-- `All`, maps, zeros and the two orders by the index, and how often a number stands in a list: by recursion on the list. Assumes nothing.
use mathlib.Core.Path.{◌≡◌, refl, sym, ap, ◌∙◌}
use mathlib.Core.Logic.{⊎_elim, ◌≢◌}
use mathlib.Core.List.{List, [], ◌∷◌, ◌++◌, map}
use Prim.Native.Nat.{ℕ, zero, suc, ◌+◌, ◌≤◌, ◌<◌}
use native.Mathlib.Nat.{le_of_suc-le-suc, not-suc-le-zero, eq-or-lt_of_le}
use native.Mathlib.Numerals.{add-one}
use native.Mathlib.Omega.{arith}
use lib.ListN.{length, get_or, take, drop, replicate}
use borrow.Author.Tests.{eq-eqb, ne_eqb}
use Rattle.base.specs.Lists.{All, Ordered, Asc, StrictAsc, hit, times}
use Rattle.std.proofs.lemmas.Bool.{cases_eq}

-- All, by the index

pub all_index : (P : ℕ → Type 0) (xs : List ℕ) → ((i : ℕ) → i < length xs → P (get_or xs i 0)) → All P xs
all_index P [] h = tt
all_index P (x ∷ xs) h = (h 0 (omega arith), all_index P xs (λ i l. h (suc i) (omega arith)))

pub all_at : (P : ℕ → Type 0) (xs : List ℕ) → All P xs → (i : ℕ) → i < length xs → P (get_or xs i 0)
all_at P [] a i l = absurd (not-suc-le-zero l)
all_at P (x ∷ xs) a zero l = a.0
all_at P (x ∷ xs) a (suc i) l = all_at P xs a.1 i (le_of_suc-le-suc l)

pub all_map : (P Q : ℕ → Type 0) → ((x : ℕ) → P x → Q x) → (xs : List ℕ) → All P xs → All Q xs
all_map P Q f [] a = tt
all_map P Q f (x ∷ xs) a = (f x a.0, all_map P Q f xs a.1)

pub all_append : (P : ℕ → Type 0) (xs ys : List ℕ) → All P xs → All P ys → All P (xs ++ ys)
all_append P [] ys a b = b
all_append P (x ∷ xs) ys a b = (a.0, all_append P xs ys a.1 b)

-- of a part

pub all_take : (P : ℕ → Type 0) (n : ℕ) (xs : List ℕ) → All P xs → All P (take n xs)
all_take P zero xs a = tt
all_take P (suc n) [] a = tt
all_take P (suc n) (x ∷ xs) a = (a.0, all_take P n xs a.1)

pub all_drop : (P : ℕ → Type 0) (n : ℕ) (xs : List ℕ) → All P xs → All P (drop n xs)
all_drop P zero xs a = a
all_drop P (suc n) [] a = tt
all_drop P (suc n) (x ∷ xs) a = all_drop P n xs a.1

pub asc_take : (n : ℕ) (xs : List ℕ) → Asc xs → Asc (take n xs)
asc_take zero xs r = tt
asc_take (suc n) [] r = tt
asc_take (suc n) (x ∷ xs) r = (all_take (λ y. x ≤ y) n xs r.0, asc_take n xs r.1)

pub asc_drop : (n : ℕ) (xs : List ℕ) → Asc xs → Asc (drop n xs)
asc_drop zero xs r = r
asc_drop (suc n) [] r = tt
asc_drop (suc n) (x ∷ xs) r = asc_drop n xs r.1

-- what a map makes, by the index, and of a part

module _ {A B : Type 0} (f : A → B) where
  pub map_at : (xs : List A) (i : ℕ) (x : A) (y : B) → i < length xs → get_or (map f xs) i y ≡ f (get_or xs i x)
  map_at [] i x y l = absurd (not-suc-le-zero l)
  map_at (z ∷ xs) zero x y l = refl
  map_at (z ∷ xs) (suc i) x y l = map_at xs i x y (le_of_suc-le-suc l)

  pub map-take : (n : ℕ) (xs : List A) → map f (take n xs) ≡ take n (map f xs)
  map-take zero xs = refl
  map-take (suc n) [] = refl
  map-take (suc n) (x ∷ xs) = ap (λ (ys : List B). f x ∷ ys) (map-take n xs)

  pub map-drop : (n : ℕ) (xs : List A) → map f (drop n xs) ≡ drop n (map f xs)
  map-drop zero xs = refl
  map-drop (suc n) [] = refl
  map-drop (suc n) (x ∷ xs) = map-drop n xs

-- zeros, past their end too
pub zeros_at : (n i : ℕ) → get_or {A = ℕ} (replicate n 0) i 0 ≡ 0
zeros_at zero i = refl
zeros_at (suc n) zero = refl
zeros_at (suc n) (suc i) = zeros_at n i

-- an order by the index, and by neighbours

pub ordered_at : (R : ℕ → ℕ → Type 0) (xs : List ℕ) → Ordered R xs → (p q : ℕ) → p < q → q < length xs → R (get_or xs p 0) (get_or xs q 0)
ordered_at R [] a p q h l = absurd (not-suc-le-zero l)
ordered_at R (x ∷ xs) a p zero h l = absurd (not-suc-le-zero h)
ordered_at R (x ∷ xs) a zero (suc q) h l = all_at (λ y. R x y) xs a.0 q (le_of_suc-le-suc l)
ordered_at R (x ∷ xs) a (suc p) (suc q) h l = ordered_at R xs a.1 p q (le_of_suc-le-suc h) (le_of_suc-le-suc l)

module _ (R : ℕ → ℕ → Type 0) (trans : (x y z : ℕ) → R x y → R y z → R x z) where
  pub ordered_steps : (xs : List ℕ) → ((i : ℕ) → i + 1 < length xs → R (get_or xs i 0) (get_or xs (i + 1) 0)) → Ordered R xs
  ordered_steps [] h = tt
  ordered_steps (x ∷ []) h = (tt, tt)
  ordered_steps (x ∷ y ∷ xs) h =
      let rest : Ordered R (y ∷ xs) = ordered_steps (y ∷ xs) (λ i l. rw add-one (rw add-one at (h (suc i) (omega arith)))) in
      let xy : R x y = h 0 (omega arith) in
      ((xy, all_map (λ z. R y z) (λ z. R x z) (λ z yz. trans x y z xy yz) xs rest.0), rest)

pub ordered_map : (R S : ℕ → ℕ → Type 0) → ((x y : ℕ) → R x y → S x y) → (xs : List ℕ) → Ordered R xs → Ordered S xs
ordered_map R S f [] a = tt
ordered_map R S f (x ∷ xs) a = (all_map (λ y. R x y) (λ y. S x y) (f x) xs a.0, ordered_map R S f xs a.1)

-- never down

pub asc_at : (xs : List ℕ) → Asc xs → (p q : ℕ) → p ≤ q → q < length xs → get_or xs p 0 ≤ get_or xs q 0
asc_at xs a p q h l = ⊎_elim (λ (e : p ≡ q). rw e (omega arith)) (λ (m : p < q). ordered_at (λ x y. x ≤ y) xs a p q m l) (eq-or-lt_of_le h)

pub asc_steps : (xs : List ℕ) → ((i : ℕ) → i + 1 < length xs → get_or xs i 0 ≤ get_or xs (i + 1) 0) → Asc xs
asc_steps xs h = ordered_steps (λ x y. x ≤ y) (λ x y z l m. omega arith) xs h

-- a function that never goes down keeps the order
pub asc_map : (f : ℕ → ℕ) → ((x y : ℕ) → x ≤ y → f x ≤ f y) → (xs : List ℕ) → Asc xs → Asc (map f xs)
asc_map f up [] a = tt
asc_map f up (x ∷ xs) a = (map_all xs a.0, asc_map f up xs a.1)
  where
    map_all : (ys : List ℕ) → All (λ y. x ≤ y) ys → All (λ y. f x ≤ y) (map f ys)
    map_all [] b = tt
    map_all (y ∷ ys) b = (up x y b.0, map_all ys b.1)

-- strictly ascending

pub strict_at : (xs : List ℕ) → StrictAsc xs → (p q : ℕ) → p < q → q < length xs → get_or xs p 0 < get_or xs q 0
strict_at xs a p q h l = ordered_at (λ x y. x < y) xs a p q h l

pub strict_steps : (xs : List ℕ) → ((i : ℕ) → i + 1 < length xs → get_or xs i 0 < get_or xs (i + 1) 0) → StrictAsc xs
strict_steps xs h = ordered_steps (λ x y. x < y) (λ x y z l m. omega arith) xs h

pub strict_asc : (xs : List ℕ) → StrictAsc xs → Asc xs
strict_asc xs a = ordered_map (λ x y. x < y) (λ x y. x ≤ y) (λ x y l. omega arith) xs a

-- how often a number stands there

pub hit_same : (v : ℕ) → hit v v ≡ 1
unfolding hit
hit_same v = rw (eq-eqb v v refl)

pub hit_other : (v x : ℕ) → (v ≡ x → ⊥) → hit v x ≡ 0
unfolding hit
hit_other v x n = rw (ne_eqb v x n)

pub hit-le : (v x : ℕ) → hit v x ≤ 1
hit-le v x = ⊎_elim (λ (e : v ≡ x). rw e (omega (arith, hit_same x))) (λ (n : v ≢ x). omega (arith, hit_other v x n)) (cases_eq v x)

pub times-append : (v : ℕ) (xs ys : List ℕ) → times v (xs ++ ys) ≡ times v xs + times v ys
unfolding times
times-append v [] ys = omega arith
times-append v (x ∷ xs) ys = let t = times-append v xs ys in omega arith

-- where every element is above v, v does not stand
pub times_above : (v : ℕ) (xs : List ℕ) → All (λ z. v < z) xs → times v xs ≡ 0
unfolding times
times_above v [] a = refl
times_above v (x ∷ xs) a = let h = hit_other v x (omega arith) in let t = times_above v xs a.1 in omega arith

-- a number stands where it is an element

pub times_at : (xs : List ℕ) (i : ℕ) → i < length xs → 0 < times (get_or xs i 0) xs
unfolding times
times_at [] i l = absurd (not-suc-le-zero l)
times_at (x ∷ xs) zero l = let h = hit_same x in omega arith
times_at (x ∷ xs) (suc i) l = let t = times_at xs i (le_of_suc-le-suc l) in omega arith

pub times_find : (v : ℕ) (xs : List ℕ) → 0 < times v xs → (i : ℕ) × (i < length xs) × (get_or xs i 0 ≡ v)
unfolding times
times_find v [] h = absurd (not-suc-le-zero h)
times_find v (x ∷ xs) h =
    ⊎_elim (λ (e : v ≡ x). (0, omega arith, sym e))
    (λ (n : v ≢ x).
    let o = hit_other v x n in
    let f = times_find v xs (omega arith) in
    (suc f.0, omega (arith, f.1), f.2))
    (cases_eq v x)

-- once at most in a strictly ascending list
pub times_strict : (v : ℕ) (xs : List ℕ) → StrictAsc xs → times v xs ≤ 1
unfolding times
times_strict v [] a = omega arith
times_strict v (x ∷ xs) a =
    ⊎_elim
    (λ (e : v ≡ x).
    let h : hit v x ≡ 1 = ap (hit v) (sym e) ∙ hit_same v in
    let t : times v xs ≡ 0 = times_above v xs (all_map (λ y. x < y) (λ y. v < y) (λ y l. omega arith) xs a.0) in
    omega arith)
    (λ (n : v ≢ x).
    let o = hit_other v x n in
    let t = times_strict v xs a.1 in
    omega arith)
    (cases_eq v x)
