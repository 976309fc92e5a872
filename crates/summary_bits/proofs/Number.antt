-- The bits of one number: under or, and, not and the shifts, the highest and the lowest set bit, and that a number is its bits.
-- Each goes by halving: bit k + 1 of x is bit k of x / 2.
use mathlib.Core.Path.{◌≡◌, refl, sym, ap, ap₂, ◌∙◌, subst}
use mathlib.Core.Logic.{⊎_elim, ◌≢◌}
use Prim.Native.Nat.{ℕ, zero, suc, ◌+◌, ◌-◌, ◌*◌, ◌/◌, ◌%◌, ◌^◌, ◌≤◌, ◌<◌, min, max}
use native.Mathlib.Nat.{mod-lt, zero-div, div-one, div_self, div-eq_of_lt, div-eq_of_lt-le, lt_of_lt_of_le, zero-max, zero-min, pow-suc, div-div-eq-div-mul, mul_comm, mul-one, one-mul, div-le_self, suc-add, zero-add, zero-lt-suc}
use native.Mathlib.Omega.{arith}
use lib.Arith.{mod-mul}
use lib.Pow.{pow_pos, pow-lt, pow_mono, shr-shr, shl_exact}
use lib.Bits.{bit_and, bit_or, or_shr, or_mod, and_shr, and_mod, shifted_half, shifted_even, or_add_and, and_le_l}
use lib.Count.{count_leading_zeros, count_trailing_zeros, under, leading_top}
use Rattle.summary_bits.specs.Bits.{bit, on_bit, off_bit}
use Rattle.base.specs.Nearest.{LastBelow, NoneBelow, FirstFrom, NoneFrom}
use Rattle.std.proofs.lemmas.Bool.{cases_lt}

pub bit_le : (x k : ℕ) → bit x k ≤ 1
unfolding bit
bit_le x k = omega arith

pub bit_of_zero : (k : ℕ) → bit 0 k ≡ 0
unfolding bit
bit_of_zero k = rw zero-div

pub bit-zero : (x : ℕ) → bit x 0 ≡ x % 2
unfolding bit
bit-zero x = ap (λ (n : ℕ). n % 2) (div-one x)

pub bit-suc : (x k : ℕ) → bit x (suc k) ≡ bit (x / 2) k
unfolding bit
bit-suc x k = ap (λ (n : ℕ). n % 2) (ap (λ (n : ℕ). x / n) (pow-suc 2 k ∙ mul_comm (2 ^ k) 2) ∙ sym (div-div-eq-div-mul x 2 (2 ^ k)))

-- `1 << b`
pub one_shl : (b : ℕ) → b < 64 → (1 * 2 ^ b) % 2 ^ 64 ≡ 2 ^ b
one_shl b h = shl_exact {a = 1} 1 b 64 (omega arith) (omega arith) ∙ one-mul (2 ^ b)

-- or, and, not

or_small : (a b : ℕ) → a < 2 → b < 2 → bit_or a b ≡ max a b
or_small zero b ha hb = sym (zero-max b)
or_small (suc zero) zero ha hb = refl
or_small (suc zero) (suc zero) ha hb = refl
or_small (suc zero) (suc (suc b)) ha hb = absurd (omega arith)
or_small (suc (suc a)) b ha hb = absurd (omega arith)

and_small : (a b : ℕ) → a < 2 → b < 2 → bit_and a b ≡ min a b
and_small zero b ha hb = sym (zero-min b)
and_small (suc zero) zero ha hb = refl
and_small (suc zero) (suc zero) ha hb = refl
and_small (suc zero) (suc (suc b)) ha hb = absurd (omega arith)
and_small (suc (suc a)) b ha hb = absurd (omega arith)

pub bit_or_lem : (x y k : ℕ) → bit (bit_or x y) k ≡ max (bit x k) (bit y k)
unfolding bit
bit_or_lem x y k =
    ap (λ (n : ℕ). n % 2) (or_shr x y k) ∙ or_mod (x / 2 ^ k) (y / 2 ^ k) 1
    ∙ or_small (x / 2 ^ k % 2) (y / 2 ^ k % 2) (omega arith) (omega arith)

pub bit_and_lem : (x y k : ℕ) → bit (bit_and x y) k ≡ min (bit x k) (bit y k)
unfolding bit
bit_and_lem x y k =
    ap (λ (n : ℕ). n % 2) (and_shr x y k) ∙ and_mod (x / 2 ^ k) (y / 2 ^ k) 1
    ∙ and_small (x / 2 ^ k % 2) (y / 2 ^ k % 2) (omega arith) (omega arith)

-- the complement of a number of w bits
pub bit_not : (w x k : ℕ) → x < 2 ^ w → k < w → bit (2 ^ w - 1 - x) k ≡ 1 - bit x k
bit_not zero x k hx hk = absurd (omega arith)
bit_not (suc w) x zero hx hk =
    let e = pow-suc 2 w in
    bit-zero (2 ^ suc w - 1 - x) ∙ subst (λ (n : ℕ). (2 ^ suc w - 1 - x) % 2 ≡ 1 - n) (sym (bit-zero x)) (omega arith)
bit_not (suc w) x (suc k) hx hk =
    let e = pow-suc 2 w in
    let h : (2 ^ suc w - 1 - x) / 2 ≡ 2 ^ w - 1 - x / 2 = omega arith in
    bit-suc (2 ^ suc w - 1 - x) k ∙ ap (λ (n : ℕ). bit n k) h ∙ bit_not w (x / 2) k (omega arith) (omega arith)
    ∙ ap (λ (n : ℕ). 1 - n) (sym (bit-suc x k))

-- a power of two

pub bit-pow_same : (b : ℕ) → bit (2 ^ b) b ≡ 1
unfolding bit
bit-pow_same b = ap (λ (n : ℕ). n % 2) (div_self (pow_pos b))

pub bit-pow_other : (b k : ℕ) → k ≢ b → bit (2 ^ b) k ≡ 0
bit-pow_other zero zero h = absurd (h refl)
bit-pow_other zero (suc k) h = bit-suc 1 k ∙ bit_of_zero k
bit-pow_other (suc b) zero h = bit-zero (2 ^ suc b) ∙ omega (arith, pow-suc 2 b)
bit-pow_other (suc b) (suc k) h =
    bit-suc (2 ^ suc b) k ∙ ap (λ (n : ℕ). bit n k) (omega (arith, pow-suc 2 b)) ∙ bit-pow_other b k (λ e. h (ap suc e))

-- a bit turned on, and off

pub on_same : (x b : ℕ) → bit (on_bit x b) b ≡ 1
unfolding on_bit
on_same x b = omega (arith, bit_or_lem x (2 ^ b) b, bit-pow_same b, bit_le x b)

pub on_other : (x b k : ℕ) → k ≢ b → bit (on_bit x b) k ≡ bit x k
unfolding on_bit
on_other x b k h = omega (arith, bit_or_lem x (2 ^ b) k, bit-pow_other b k h)

pub on_pos : (x b : ℕ) → 0 < on_bit x b
unfolding on_bit
on_pos x b = omega (arith, or_add_and x (2 ^ b), and_le_l x (2 ^ b), pow_pos b)

pub off_le : (x b : ℕ) → off_bit x b ≤ x
unfolding off_bit
off_le x b = and_le_l x (2 ^ 64 - 1 - 2 ^ b)

pub off_same : (x b : ℕ) → b < 64 → bit (off_bit x b) b ≡ 0
unfolding off_bit
off_same x b h = omega (arith, bit_and_lem x (2 ^ 64 - 1 - 2 ^ b) b, bit_not 64 (2 ^ b) b (pow-lt h) h, bit-pow_same b)

pub off_other : (x b k : ℕ) → b < 64 → k < 64 → k ≢ b → bit (off_bit x b) k ≡ bit x k
unfolding off_bit
off_other x b k h l n =
    omega (arith, bit_and_lem x (2 ^ 64 - 1 - 2 ^ b) k, bit_not 64 (2 ^ b) k (pow-lt h) l, bit-pow_other b k n, bit_le x k)

-- shifts

pub bit-mod : (w n k : ℕ) → k < w → bit (n % 2 ^ w) k ≡ bit n k
bit-mod zero n k h = absurd (omega arith)
bit-mod (suc w) n zero h =
    let e = ap (λ (m : ℕ). n % m) (pow-suc 2 w) ∙ mod-mul n (pow_pos w) (zero-lt-suc 1) in
    bit-zero (n % 2 ^ suc w) ∙ ap (λ (m : ℕ). m % 2) e ∙ omega arith ∙ sym (bit-zero n)
bit-mod (suc w) n (suc k) h =
    let e = ap (λ (m : ℕ). n % m) (pow-suc 2 w) ∙ mod-mul n (pow_pos w) (zero-lt-suc 1) in
    let f : (n % 2 ^ suc w) / 2 ≡ n / 2 % 2 ^ w = omega arith in
    bit-suc (n % 2 ^ suc w) k ∙ ap (λ (m : ℕ). bit m k) f ∙ bit-mod w (n / 2) k (omega arith) ∙ sym (bit-suc n k)

pub bit_shl_low : (x s k : ℕ) → k < s → bit (x * 2 ^ s) k ≡ 0
bit_shl_low x zero k h = absurd (omega arith)
bit_shl_low x (suc s) zero h = bit-zero (x * 2 ^ suc s) ∙ shifted_even x s
bit_shl_low x (suc s) (suc k) h =
    bit-suc (x * 2 ^ suc s) k ∙ ap (λ (n : ℕ). bit n k) (shifted_half x s) ∙ bit_shl_low x s k (omega arith)

pub bit_shl : (x s k : ℕ) → bit (x * 2 ^ s) (s + k) ≡ bit x k
bit_shl x zero k = ap₂ bit (mul-one x) (zero-add k)
bit_shl x (suc s) k =
    ap (bit (x * 2 ^ suc s)) (suc-add s k) ∙ bit-suc (x * 2 ^ suc s) (s + k) ∙ ap (λ (n : ℕ). bit n (s + k)) (shifted_half x s) ∙ bit_shl x s k

pub bit_shr : (x s k : ℕ) → bit (x / 2 ^ s) k ≡ bit x (s + k)
unfolding bit
bit_shr x s k = ap (λ (n : ℕ). n % 2) (shr-shr x s k)

-- the highest set bit

pub bit_top : (a j : ℕ) → 2 ^ j ≤ a → a < 2 ^ suc j → bit a j ≡ 1
unfolding bit
bit_top a j l h = ap (λ (n : ℕ). n % 2) (div-eq_of_lt-le {k = 1} (2 ^ j) (omega arith) (omega (arith, pow-suc 2 j)))

pub bit_above : (a n k : ℕ) → a < 2 ^ n → n ≤ k → bit a k ≡ 0
unfolding bit
bit_above a n k h l = ap (λ (m : ℕ). m % 2) (div-eq_of_lt (lt_of_lt_of_le h (pow_mono l)))

pub on_lt : (x k : ℕ) → x < 2 ^ 64 → bit x k ≡ 1 → k < 64
on_lt x k h e = ⊎_elim (λ (l : k < 64). l) (λ (l : 64 ≤ k). absurd (omega (arith, bit_above x 64 k h l))) (cases_lt k 64)

pub top_near : (x : ℕ) → 0 < x → x < 2 ^ 64 → count_leading_zeros 64 x < 64
top_near x p h = omega (arith, (leading_top 64 x p h).1)

pub top_of : (x : ℕ) → 0 < x → x < 2 ^ 64 → LastBelow (bit x) 64 (63 - count_leading_zeros 64 x)
top_of x p h =
    let t = leading_top 64 x p h in
    let e : t.0 ≡ 63 - count_leading_zeros 64 x = omega arith in
    subst (λ (n : ℕ). LastBelow (bit x) 64 n) e
    (record { below = omega arith; on = bit_top x t.0 t.2 t.3; off = λ k l m. bit_above x (suc t.0) k t.3 l })

-- the highest set bit at or below b, by a shift that drops the bits above b
module _ (x b : ℕ) (hb : b < 64) where
  shifted_bit : (k : ℕ) → k < b + 1 → bit (x * 2 ^ (63 - b) % 2 ^ 64) (63 - b + k) ≡ bit x k
  shifted_bit k l = bit-mod 64 (x * 2 ^ (63 - b)) (63 - b + k) (omega arith) ∙ bit_shl x (63 - b) k

  pub none_upto : x * 2 ^ (63 - b) % 2 ^ 64 ≡ 0 → NoneBelow (bit x) (b + 1)
  none_upto e k l = sym (shifted_bit k l) ∙ ap (λ (n : ℕ). bit n (63 - b + k)) e ∙ bit_of_zero (63 - b + k)

  -- of the shifted word that is not 0: the place of its highest set bit is 63 - b at least
  module _ (n : x * 2 ^ (63 - b) % 2 ^ 64 ≢ 0) where
    top : LastBelow (bit (x * 2 ^ (63 - b) % 2 ^ 64)) 64 (63 - count_leading_zeros 64 (x * 2 ^ (63 - b) % 2 ^ 64))
    top = top_of (x * 2 ^ (63 - b) % 2 ^ 64) (omega arith) (mod-lt (x * 2 ^ (63 - b)) (pow_pos 64))

    pub upto_le : count_leading_zeros 64 (x * 2 ^ (63 - b) % 2 ^ 64) ≤ b
    upto_le =
        let J = 63 - count_leading_zeros 64 (x * 2 ^ (63 - b) % 2 ^ 64) in
        let on : bit (x * 2 ^ (63 - b)) J ≡ 1 = sym (bit-mod 64 (x * 2 ^ (63 - b)) J top.below) ∙ top.on in
        let l = leading_top 64 (x * 2 ^ (63 - b) % 2 ^ 64) (omega arith) (mod-lt (x * 2 ^ (63 - b)) (pow_pos 64)) in
        ⊎_elim (λ (h : J < 63 - b). absurd (omega (arith, bit_shl_low x (63 - b) J h))) (λ (h : 63 - b ≤ J). omega arith) (cases_lt J (63 - b))

    pub top_upto : LastBelow (bit x) (b + 1) (b - count_leading_zeros 64 (x * 2 ^ (63 - b) % 2 ^ 64))
    top_upto =
        let y = x * 2 ^ (63 - b) % 2 ^ 64 in
        let r = b - count_leading_zeros 64 y in
        let l = upto_le in
        record {
          below = omega arith;
          on = sym (shifted_bit r (omega arith)) ∙ ap (bit y) (omega arith) ∙ top.on;
          off = λ k h m. sym (shifted_bit k m) ∙ top.off (63 - b + k) (omega arith) (omega arith);
        }

-- the lowest set bit

pub below_tz : (d n k : ℕ) → k < count_trailing_zeros d n → bit n k ≡ 0
unfolding count_trailing_zeros
below_tz zero n k h = absurd (omega arith)
below_tz (suc d) n k h = go (n % 2) refl k h (λ j l. below_tz d (n / 2) j l)
  where
    go : (r : ℕ) → n % 2 ≡ r → (k : ℕ) → k < under r (count_trailing_zeros d (n / 2)) → ((j : ℕ) → j < count_trailing_zeros d (n / 2) → bit (n / 2) j ≡ 0) → bit n k ≡ 0
    go zero e zero l ih = bit-zero n ∙ e
    go zero e (suc k) l ih = bit-suc n k ∙ ih k (omega arith)
    go (suc r) e k l ih = absurd (omega arith)

pub at_tz : (d n : ℕ) → 0 < n → n < 2 ^ d → (count_trailing_zeros d n < d) × (bit n (count_trailing_zeros d n) ≡ 1)
unfolding count_trailing_zeros
at_tz zero n p h = absurd (omega arith)
at_tz (suc d) n p h = go (n % 2) refl (λ q. at_tz d (n / 2) q (omega (arith, pow-suc 2 d)))
  where
    go : (r : ℕ) → n % 2 ≡ r → (0 < n / 2 → (count_trailing_zeros d (n / 2) < d) × (bit (n / 2) (count_trailing_zeros d (n / 2)) ≡ 1))
        → (under r (count_trailing_zeros d (n / 2)) < suc d) × (bit n (under r (count_trailing_zeros d (n / 2))) ≡ 1)
    go zero e ih =
        let i = ih (omega arith) in
        (omega arith, bit-suc n (count_trailing_zeros d (n / 2)) ∙ i.1)
    go (suc r) e ih = (omega arith, bit-zero n ∙ omega arith)

-- the lowest set bit from b on, by a shift that drops the bits below b
module _ (x b : ℕ) (hb : b < 64) (hx : x < 2 ^ 64) where
  dropped : (k : ℕ) → b ≤ k → bit (x / 2 ^ b) (k - b) ≡ bit x k
  dropped k l = bit_shr x b (k - b) ∙ ap (bit x) (omega arith)

  pub none_from : x / 2 ^ b ≡ 0 → NoneFrom (bit x) b
  none_from e k l = sym (dropped k l) ∙ ap (λ (n : ℕ). bit n (k - b)) e ∙ bit_of_zero (k - b)

  pub low_from : x / 2 ^ b ≢ 0 → FirstFrom (bit x) b (b + count_trailing_zeros 64 (x / 2 ^ b))
  low_from n =
      let t = at_tz 64 (x / 2 ^ b) (omega arith) (omega (arith, div-le_self x (2 ^ b))) in
      record {
        from = omega arith;
        on = sym (bit_shr x b (count_trailing_zeros 64 (x / 2 ^ b))) ∙ t.1;
        off = λ k l m. sym (dropped k l) ∙ below_tz 64 (x / 2 ^ b) (k - b) (omega arith);
      }

pub low_near : (x : ℕ) → 0 < x → x < 2 ^ 64 → count_trailing_zeros 64 x < 64
low_near x p h = (at_tz 64 x p h).0

pub low_of : (x : ℕ) → 0 < x → x < 2 ^ 64 → FirstFrom (bit x) 0 (count_trailing_zeros 64 x)
low_of x p h = record { from = omega arith; on = (at_tz 64 x p h).1; off = λ k l m. below_tz 64 x k m }

-- a number is its bits
pub bits_ext : (n x y : ℕ) → x < 2 ^ n → y < 2 ^ n → ((k : ℕ) → k < n → bit x k ≡ bit y k) → x ≡ y
bits_ext zero x y hx hy e = omega arith
bits_ext (suc n) x y hx hy e =
    omega (
      arith,
      sym (bit-zero x) ∙ e 0 (omega arith) ∙ bit-zero y,
      bits_ext n (x / 2) (y / 2) (omega (arith, pow-suc 2 n)) (omega (arith, pow-suc 2 n)) (λ k l. sym (bit-suc x k) ∙ e (suc k) (omega arith) ∙ bit-suc y k),
    )
