-- Laws of `count`: each goes through the numbers below n, one at a time. Assumes nothing.
use mathlib.Core.Path.{◌≡◌, refl, sym, ap, subst}
use Prim.Native.Nat.{ℕ, zero, suc, ◌+◌, ◌≤◌, ◌<◌}
use native.Mathlib.Nat.{not-suc-le-zero}
use native.Mathlib.Numerals.{add-one}
use native.Mathlib.Decide.{ℕ_discrete}
use native.Mathlib.Omega.{arith}
use Rattle.base.specs.Counting.{count, Same, Bump}

pub count-zero : (f : ℕ → ℕ) → count f 0 ≡ 0
unfolding count
count-zero f = refl

pub count_next : (f : ℕ → ℕ) (n : ℕ) → count f (n + 1) ≡ count f n + f n
unfolding count
count_next f n = rw add-one

-- equal below n
pub count_below : (f g : ℕ → ℕ) (n : ℕ) → ((j : ℕ) → j < n → g j ≡ f j) → count g n ≡ count f n
unfolding count
count_below f g zero e = refl
count_below f g (suc n) e = omega (arith, count_below f g n (λ j l. e j (omega arith)), e n (omega arith))

pub count_same : (f g : ℕ → ℕ) (n : ℕ) → Same f g → count g n ≡ count f n
count_same f g n e = count_below f g n (λ j l. e j)

pub count-le : (f g : ℕ → ℕ) (n : ℕ) → ((j : ℕ) → f j ≤ g j) → count f n ≤ count g n
unfolding count
count-le f g zero e = omega arith
count-le f g (suc n) e = omega (arith, count-le f g n e, e n)

-- at most one at each number
pub count_most : (f : ℕ → ℕ) (n : ℕ) → ((j : ℕ) → f j ≤ 1) → count f n ≤ n
unfolding count
count_most f zero e = omega arith
count_most f (suc n) e = omega (arith, count_most f n e, e n)

-- none from m to n
pub count_none : (f : ℕ → ℕ) (m n : ℕ) → m ≤ n → ((j : ℕ) → m ≤ j → j < n → f j ≡ 0) → count f n ≡ count f m
unfolding count
count_none f m zero h e =
    let q : 0 ≡ m = omega arith in
    ap (count f) q
count_none f m (suc n) h e = go (ℕ_discrete m (suc n)) (λ l. count_none f m n l (λ j p q. e j p (omega arith)))
  where
    go : Dec (m ≡ suc n) → (m ≤ n → count f n ≡ count f m) → count f n + f n ≡ count f m
    go (yes q) ih = ap (count f) (sym q)
    go (no q) ih = omega (arith, ih (omega arith), e n (omega arith) (omega arith))

pub count_up : (f : ℕ → ℕ) (m n : ℕ) → m ≤ n → count f m ≤ count f n
unfolding count
count_up f m zero h =
    let q : m ≡ 0 = omega arith in
    omega (arith, ap (count f) q)
count_up f m (suc n) h = go (ℕ_discrete m (suc n)) (λ l. count_up f m n l)
  where
    go : Dec (m ≡ suc n) → (m ≤ n → count f m ≤ count f n) → count f m ≤ count f n + f n
    go (yes q) ih = omega (arith, ap (count f) q)
    go (no q) ih = omega (arith, ih (omega arith))

-- one number more
pub bump_out : (f g : ℕ → ℕ) (i n : ℕ) → Bump f g i → n ≤ i → count g n ≡ count f n
bump_out f g i n b h = count_below f g n (λ j l. b.else j (omega arith))

pub bump_in : (f g : ℕ → ℕ) (i n : ℕ) → Bump f g i → i < n → count g n ≡ count f n + 1
unfolding count
bump_in f g i zero b h = absurd (not-suc-le-zero h)
bump_in f g i (suc n) b h = go (ℕ_discrete i n) (λ l. bump_in f g i n b l)
  where
    go : Dec (i ≡ n) → (i < n → count g n ≡ count f n + 1) → count g n + g n ≡ count f n + f n + 1
    go (yes q) ih = omega (arith, bump_out f g i n b (omega arith), subst (λ (m : ℕ). g m ≡ f m + 1) q b.here)
    go (no q) ih = omega (arith, ih (omega arith), b.else n (λ r. q (sym r)))
