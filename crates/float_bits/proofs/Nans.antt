-- Which bit patterns and which floats are a NaN: a pattern whose lower 63 bits are above the infinity's; a float that differs from itself.
use Prim.Native.Nat.{ℕ, ◌<◌, ◌≤◌, ◌%◌}
use mathlib.Core.Path.{◌≡◌, refl, sym, ◌∙◌, subst}
use mathlib.Core.Bool.{Bool, true, false, not}
use borrow.Author.Tests.{lt-ltb, le-ltb}
use lib.Dec.{T}
use lib.Ieee.{Float, nan, inf, fin, binary64, of_bits, is_nan, nan_bits, ne}
use lib.Ieee.Bits.{nan_bits_is, nan_bits_above}

-- `f64::NAN`
pub made : of_bits binary64 0x7ff8_0000_0000_0000 ≡ nan
unfolding of_bits
made = refl

only : (x : Float) → is_nan x ≡ true → x ≡ nan
unfolding is_nan
only nan e = refl
only (inf s) e = absurd (subst T (sym e) tt)
only (fin s m k) e = absurd (subst T (sym e) tt)

pub above : (n : ℕ) → 0x7ff0_0000_0000_0000 < n % 0x8000_0000_0000_0000 → of_bits binary64 n ≡ nan
above n h = only _ (sym (nan_bits_is binary64 n) ∙ nan_bits_above binary64 n ∙ lt-ltb _ _ h)

pub below : (n : ℕ) → n % 0x8000_0000_0000_0000 ≤ 0x7ff0_0000_0000_0000 → T (not (nan_bits binary64 n))
below n h = subst (λ (b : Bool). T (not b)) (sym (nan_bits_above binary64 n ∙ le-ltb _ _ h)) tt
