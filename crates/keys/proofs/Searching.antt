-- The search of an ascending list: what stands before base is below x, and what stands from base + w on is not. A probe in the middle halves w either way,
-- since the list ascends. One law for lists of any width of key. Assumes nothing.
use mathlib.Core.Path.{◌≡◌, refl, sym, ap, ◌∙◌}
use mathlib.Core.Logic.{◌⊎◌, inl, inr, ⊎_elim}
use mathlib.Core.List.{List, [], ◌∷◌, map}
use Rattle.std.specs.Prelude.{Bool, true, false, not}
use Rattle.std.specs.Int.{from_bool}
use Prim.Native.Nat.{ℕ, zero, suc, ◌+◌, ◌-◌, ◌*◌, ◌^◌, ◌%◌, ◌≤◌, ◌<◌, zero-le}
use native.Mathlib.Nat.{not-suc-le-zero, le_of_suc-le-suc, pow-suc}
use native.Mathlib.Omega.{arith}
use lib.ListN.{length, get_or}
use Rattle.std.proofs.lemmas.List.{length-map, get_or-map}
use lib.Pow.{shl_exact, pow_pos}
use lib.Count.{count_leading_zeros, leading_top}
use borrow.Author.Tests.{lt-ltb, le-ltb}
use Rattle.base.specs.Pick.{pick}
use Rattle.base.specs.Lists.{Asc}
use Rattle.base.proofs.Lists.{asc_at}
use Rattle.std.proofs.lemmas.Bool.{cases_lt}
use Rattle.keys.specs.Lists.{under, below, Within}

-- a test as a number
pub one_where : (b : Bool) → from_bool b ≡ pick b 1 0
unfolding pick
one_where true = refl
one_where false = refl

pub zero_where : (b : Bool) → from_bool (not b) ≡ pick b 0 1
unfolding pick
zero_where true = refl
zero_where false = refl

pub under_yes : (x y : ℕ) → y < x → under x y ≡ 1
unfolding under pick
under_yes x y l = rw (lt-ltb y x l)

pub under_no : (x y : ℕ) → x ≤ y → under x y ≡ 0
unfolding under pick
under_no x y l = rw (le-ltb y x l)

pub under_either : (x y : ℕ) → ((y < x) × (under x y ≡ 1)) ⊎ ((x ≤ y) × (under x y ≡ 0))
under_either x y = ⊎_elim (λ l. inl (l, under_yes x y l)) (λ l. inr (l, under_no x y l)) (cases_lt y x)

pub under_small : (x y : ℕ) → under x y < 2
under_small x y = ⊎_elim (λ c. omega (arith, c.1)) (λ c. omega (arith, c.1)) (under_either x y)

pub below_none : (x : ℕ) (xs : List ℕ) → ((i : ℕ) → i < length xs → x ≤ get_or xs i 0) → below x xs ≡ 0
unfolding below
below_none x [] h = refl
below_none x (y ∷ ys) h = let e = under_no x y (h 0 (omega arith)) in let t = below_none x ys (λ i l. h (suc i) (omega arith)) in omega arith

-- the first r are below x and the others are not: r are below x
pub below_is : (x : ℕ) (xs : List ℕ) (r : ℕ) → r ≤ length xs → ((i : ℕ) → i < r → get_or xs i 0 < x) → ((i : ℕ) → r ≤ i → i < length xs → x ≤ get_or xs i 0)
    → below x xs ≡ r
unfolding below
below_is x xs zero l a b = below_none x xs (λ i m. b i zero-le m)
below_is x [] (suc r) l a b = absurd (not-suc-le-zero l)
below_is x (y ∷ ys) (suc r) l a b =
    let e = under_yes x y (a 0 (omega arith)) in
    let t = below_is x ys r (le_of_suc-le-suc l) (λ i m. a (suc i) (omega arith)) (λ i m n. b (suc i) (omega arith) (omega arith)) in
    omega arith

-- the keys as they are read: x stands at i, and w is its number

module _ {A : Type 0} (f : A → ℕ) (keys : List A) (ns : List ℕ) (e : map f keys ≡ ns) where
  pub as_many : length ns ≡ length keys
  as_many = ap length (sym e) ∙ length-map keys f

  pub number_at : (i : ℕ) (x : A) {w : ℕ} → w ≡ f x → x ≡ get_or keys i x → i < length keys → w ≡ get_or ns i 0
  number_at i x n h l = n ∙ ap f h ∙ sym (get_or-map f keys i x 0 l) ∙ ap (λ (l : List ℕ). get_or l i 0) e

-- powers of two

pub double : (s : ℕ) → 0 < s → 2 ^ s ≡ 2 ^ (s - 1) + 2 ^ (s - 1)
double zero p = absurd (omega arith)
double (suc s) p = let e : suc s - 1 ≡ s = omega arith in rw e (pow-suc 2 s ∙ (omega arith))

-- a number below two, shifted, loses no bit
pub shifted : (b s : ℕ) → b < 2 → s < 64 → (b * 2 ^ s) % 2 ^ 64 ≡ b * 2 ^ s
shifted b s l m = shl_exact {a = b} 1 s 64 (omega arith) (omega arith)

-- the place of the highest bit
pub within_top : (n : ℕ) → 0 < n → n < 2 ^ 64 → Within n (63 - count_leading_zeros 64 n)
within_top n p l =
    let t = leading_top 64 n p l in
    let j : 63 - count_leading_zeros 64 n ≡ t.0 = omega (arith, t.1) in
    let e : 2 ^ suc t.0 ≡ 2 ^ t.0 + 2 ^ t.0 = pow-suc 2 t.0 ∙ (omega arith) in
    rw j (record { few = omega (arith, t.1); low = t.2; high = omega (arith, e, t.3) })

-- 0 or 1 times m
pub times_most : (b m : ℕ) → b < 2 → b * m ≤ m
times_most zero m l = omega arith
times_most (suc zero) m l = omega arith
times_most (suc (suc b)) m l = absurd (omega arith)

pub record Bracket (xs : List ℕ) (x base w : ℕ) : Type 0 where
  pub within : base + w ≤ length xs
  pub low : (k : ℕ) → k < base → get_or xs k 0 < x
  pub high : (k : ℕ) → base + w ≤ k → k < length xs → x ≤ get_or xs k 0

module _ (xs : List ℕ) (x : ℕ) (s : Asc xs) where
  -- a probe at m: where its key is below x the bracket may begin past it, else it may end there
  probe : (base w m : ℕ) → m < length xs → get_or xs m 0 < x → base ≤ m + 1 → base + w ≤ length xs → ((k : ℕ) → base + w ≤ k → k < length xs → x ≤ get_or xs k 0) → Bracket xs x base w
  probe base w m ml c bm bl h = record { within = bl; low = λ k l. let u = asc_at xs s k m (omega arith) ml in omega arith; high = h }

  probe_not : (base w m : ℕ) → m < length xs → x ≤ get_or xs m 0 → m ≤ base + w → base + w ≤ length xs → ((k : ℕ) → k < base → get_or xs k 0 < x) → Bracket xs x base w
  probe_not base w m ml c bm bl h = record { within = bl; low = h; high = λ k l n. let u = asc_at xs s m k (omega arith) n in omega arith }

  -- the first probe brings the width to a power of two
  bracket_start : (w : ℕ) → 0 < w → w ≤ length xs → length xs < w + w → Bracket xs x (under x (get_or xs (w - 1) 0) * (length xs - w)) w
  bracket_start w p l m =
      ⊎_elim (λ c. rw c.1 (probe (1 * (length xs - w)) w (w - 1) (omega arith) c.0 (omega arith) (omega arith) (λ k a b. absurd (omega arith))))
      (λ c. rw c.1 (probe_not (0 * (length xs - w)) w (w - 1) (omega arith) c.0 (omega arith) (omega arith) (λ k a. absurd (omega arith))))
      (under_either x (get_or xs (w - 1) 0))

  bracket_half : (base h : ℕ) → Bracket xs x base (h + h) → 0 < h → Bracket xs x (base + under x (get_or xs (base + h - 1) 0) * h) h
  bracket_half base h v p =
      let n = v.within in
      ⊎_elim (λ c. rw c.1 (probe (base + 1 * h) h (base + h - 1) (omega arith) c.0 (omega arith) (omega arith) (λ k a b. v.high k (omega arith) b)))
      (λ c. rw c.1 (probe_not (base + 0 * h) h (base + h - 1) (omega arith) c.0 (omega arith) (omega arith) (λ k a. v.low k (omega arith))))
      (under_either x (get_or xs (base + h - 1) 0))

  bracket_end : (base : ℕ) → Bracket xs x base 1 → base + under x (get_or xs base 0) ≡ below x xs
  bracket_end base v =
      let n = v.within in
      ⊎_elim (λ c. rw c.1 (sym (below_is x xs (base + 1) (omega arith) (λ i m. let u = asc_at xs s i base (omega arith) (omega arith) in omega arith) v.high)))
      (λ c. rw c.1 (sym (below_is x xs (base + 0) (omega arith) (λ i m. v.low i (omega arith)) (λ i m o. let u = asc_at xs s base i (omega arith) o in omega arith))))
      (under_either x (get_or xs base 0))

  -- the same in the code's terms: b is what a test answered

  pub search_start : (s w b : ℕ) → Within (length xs) s → w ≡ 2 ^ s → b ≡ under x (get_or xs (w - 1) 0) → Bracket xs x (b * (length xs - w)) (2 ^ s)
  search_start s w b h e f = rw (f, e) (bracket_start (2 ^ s) (pow_pos s) h.low h.high)

  pub search_half : (base s w b : ℕ) → Bracket xs x base (2 ^ s) → 0 < s → w ≡ 2 ^ (s - 1) → b ≡ under x (get_or xs (base + w - 1) 0) * 2 ^ (s - 1) → Bracket xs x (base + b) (2 ^ (s - 1))
  search_half base s w b v p e f = rw (f, e) (bracket_half base (2 ^ (s - 1)) (rw (double s p) at v) (pow_pos (s - 1)))

  pub search_end : (base s b : ℕ) → Bracket xs x base (2 ^ s) → s ≤ 0 → b ≡ under x (get_or xs base 0) → base + b ≡ below x xs
  search_end base s b v z f = let e : s ≡ 0 = omega arith in rw f (bracket_end base (rw e at v))
