-- How many positions lie below a number: in a list that never descends, position i is one of them exactly when i is less than their count.
-- Assumes nothing.
use Prim.Native.Nat.{ℕ, zero, suc, ◌+◌, ◌-◌, ◌≤◌, ◌<◌}
use mathlib.Core.Path.{◌≡◌, refl, ap}
use mathlib.Core.Logic.{◌⊎◌, inl, inr, ⊎_elim}
use mathlib.Core.List.{List, [], ◌∷◌, map}
use native.Mathlib.Omega.{arith}
use lib.ListN.{length, get_or, length-map}
use lib.Dec.{ltb}
use borrow.Author.Tests.{lt-ltb, le-ltb}
use Rattle.base.specs.Pick.{pick}
use Rattle.base.specs.Lists.{Asc, StrictAsc}
use Rattle.std.proofs.lemmas.Bool.{cases_lt}
use Rattle.base.proofs.Lists.{asc_at, strict_at, strict_asc}
use Rattle.rules.specs.Lists.{count}
use Rattle.rules.specs.Minimizer.{Item, position, below}

abbrev pub lower : ℕ → List ℕ → ℕ
lower q ps = count (λ x. ltb x q) ps

lower_none : (q : ℕ) → lower q [] ≡ 0
unfolding count
lower_none q = refl

-- the first is below q and counts, or is not and does not
lower_step : (q x : ℕ) (xs : List ℕ) → ((x < q) × (lower q (x ∷ xs) ≡ suc (lower q xs))) ⊎ ((q ≤ x) × (lower q (x ∷ xs) ≡ lower q xs))
unfolding count pick
lower_step q x xs = ⊎_elim (λ h. inl (h, rw (lt-ltb x q h) (omega arith))) (λ h. inr (h, rw (le-ltb x q h) (omega arith))) (cases_lt x q)

pub lower-le : (q : ℕ) (ps : List ℕ) → lower q ps ≤ length ps
lower-le q [] = omega (arith, lower_none q)
lower-le q (x ∷ xs) =
    let h = lower-le q xs in
    ⊎_elim (λ a. omega arith) (λ a. omega arith) (lower_step q x xs)

pub lower_mono : (q r : ℕ) (ps : List ℕ) → q ≤ r → lower q ps ≤ lower r ps
lower_mono q r [] l = omega (arith, lower_none q)
lower_mono q r (x ∷ xs) l =
    let h = lower_mono q r xs l in
    ⊎_elim (λ a. ⊎_elim (λ b. omega arith) (λ b. omega arith) (lower_step r x xs)) (λ a. ⊎_elim (λ b. omega arith) (λ b. omega arith) (lower_step r x xs))
    (lower_step q x xs)

-- a position that is q or more is not counted, and none after it is
pub lower_least : (q i : ℕ) (ps : List ℕ) → Asc ps → i < length ps → q ≤ get_or ps i 0 → lower q ps ≤ i
lower_least q i [] a l h = absurd (omega arith)
lower_least q zero (x ∷ []) a l h = ⊎_elim (λ c. absurd (omega arith)) (λ c. omega (arith, lower_none q)) (lower_step q x [])
lower_least q zero (x ∷ y ∷ ys) a l h =
    let r = lower_least q zero (y ∷ ys) a.1 (omega arith) (omega (arith, a.0.0)) in
    ⊎_elim (λ c. absurd (omega arith)) (λ c. omega arith) (lower_step q x (y ∷ ys))
lower_least q (suc i) (x ∷ xs) a l h =
    let r = lower_least q i xs a.1 (omega arith) h in
    ⊎_elim (λ c. omega arith) (λ c. omega arith) (lower_step q x xs)

-- a position below q is counted, and so is each before it
pub lower_above : (q i : ℕ) (ps : List ℕ) → Asc ps → i < length ps → get_or ps i 0 < q → i < lower q ps
lower_above q i [] a l h = absurd (omega arith)
lower_above q zero (x ∷ xs) a l h = ⊎_elim (λ c. omega arith) (λ c. absurd (omega arith)) (lower_step q x xs)
lower_above q (suc i) (x ∷ xs) a l h =
    let r = lower_above q i xs a.1 (omega arith) h in
    let f = asc_at (x ∷ xs) a zero (suc i) (omega arith) l in
    ⊎_elim (λ c. omega arith) (λ c. absurd (omega arith)) (lower_step q x xs)

-- just past position i lie that one and those before it
pub lower_after : (i : ℕ) (ps : List ℕ) → StrictAsc ps → i < length ps → lower (get_or ps i 0 + 1) ps ≡ i + 1
lower_after i ps s l =
    let q = get_or ps i 0 + 1 in
    let a = strict_asc ps s in
    let c = lower_above q i ps a l (omega arith) in
    ⊎_elim (λ (m : suc i < length ps). omega (arith, lower_least q (suc i) ps a m (omega (arith, strict_at ps s i (suc i) (omega arith) m))))
    (λ m. omega (arith, lower-le q ps)) (cases_lt (suc i) (length ps))

-- ---- the same of items, by their positions

abbrev pub positions : List Item → List ℕ
positions items = map (λ (x : Item). x.at) items

pub below_is : (q : ℕ) (items : List Item) → below q items ≡ lower q (positions items)
unfolding below count
below_is q [] = refl
below_is q (x ∷ xs) = ap (λ (n : ℕ). pick (ltb x.at q) 1 0 + n) (below_is q xs)

pub below_none : (q : ℕ) → below q [] ≡ 0
unfolding below count
below_none q = refl

pub below_step : (q : ℕ) (x : Item) (xs : List Item) → ((x.at < q) × (below q (x ∷ xs) ≡ suc (below q xs))) ⊎ ((q ≤ x.at) × (below q (x ∷ xs) ≡ below q xs))
below_step q x xs = rw (below_is q (x ∷ xs), below_is q xs) (lower_step q x.at (positions xs))

length-positions : (items : List Item) → length (positions items) ≡ length items
length-positions items = length-map items (λ (x : Item). x.at)

pub below-le : (q : ℕ) (items : List Item) → below q items ≤ length items
below-le q items = omega (arith, below_is q items, lower-le q (positions items), length-positions items)

pub below_mono : (q r : ℕ) (items : List Item) → q ≤ r → below q items ≤ below r items
below_mono q r items l = omega (arith, below_is q items, below_is r items, lower_mono q r (positions items) l)

module _ (items : List Item) (asc : Asc (positions items)) (q i : ℕ) (l : i < length items) where
  pub below_least : q ≤ position items i → below q items ≤ i
  unfolding position
  below_least h = rw (below_is q items) (lower_least q i (positions items) asc (rw length-map l) h)

  pub below_above : position items i < q → i < below q items
  unfolding position
  below_above h = rw (below_is q items) (lower_above q i (positions items) asc (rw length-map l) h)

-- what a scan that stops at the first position not below q has found
pub below_exact : (items : List Item) → Asc (positions items) → (q n : ℕ) → n ≤ length items → (0 < n → position items (n - 1) < q) → (n < length items → q ≤ position items n) → below q items ≡ n
below_exact items asc q n l inside outside =
    let least : n ≤ below q items = ⊎_elim (λ (h : 0 < n). omega (arith, below_above items asc q (n - 1) (omega arith) (inside h))) (λ h. omega arith) (cases_lt 0 n) in
    ⊎_elim (λ (h : n < length items). omega (arith, below_least items asc q n h (outside h))) (λ h. omega (arith, below-le q items)) (cases_lt n (length items))

pub below_after : (i : ℕ) (items : List Item) → StrictAsc (positions items) → i < length items → below (position items i + 1) items ≡ i + 1
unfolding position
below_after i items up l = rw below_is (lower_after i (positions items) up (rw length-map l))
