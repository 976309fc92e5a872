-- A bit cleared by a shifted 0 or 1: where the number is 0 the word and-ed with all ones is itself. A bit that is off stays off.
use mathlib.Core.Path.{◌≡◌, refl, sym, ap, ◌∙◌, subst}
use mathlib.Core.Logic.{⊎_elim, ◌≢◌}
use mathlib.Core.Bool.{Bool, true, false}
use mathlib.Core.List.{List}
use Prim.Native.Nat.{ℕ, zero, suc, ◌-◌, ◌*◌, ◌/◌, ◌%◌, ◌^◌, ◌≤◌, ◌<◌}
use native.Mathlib.Nat.{zero-mul}
use native.Mathlib.Omega.{arith}
use lib.Dec.{eqb}
use lib.Bits.{bit_and, and_le_l}
use lib.ListN.{get_or, set}
use lib.Seq.{set-get_or}
use lib.Pow.{pow_pos}
use Rattle.base.specs.Pick.{pick}
use Rattle.base.proofs.Checks.{eq_stop, eq_skip}
use Rattle.std.proofs.lemmas.Bool.{cases_eq}
use Rattle.summary_bits.specs.Bits.{bit, bit_at, off_bit, with_off}
use Rattle.summary_bits.specs.Summary.{Summary, lowered}
use Rattle.summary_bits.proofs.Number.{one_shl, bit_le, bit_of_zero, bit_and_lem, bit_not, bit-pow_same, bits_ext, off_le, off_same, off_other}

and_ones : (x : ℕ) → x < 2 ^ 64 → bit_and x (2 ^ 64 - 1 - 0) ≡ x
and_ones x h =
    bits_ext 64 (bit_and x (2 ^ 64 - 1 - 0)) x (omega (arith, and_le_l x (2 ^ 64 - 1 - 0))) h
    (λ k l. omega (arith, bit_and_lem x (2 ^ 64 - 1 - 0) k, bit_not 64 0 k (pow_pos 64) l, bit_of_zero k, bit_le x k))

off_unset : (x b : ℕ) → x < 2 ^ 64 → b < 64 → bit x b ≡ 0 → off_bit x b ≡ x
off_unset x b h l e =
    bits_ext 64 (off_bit x b) x (omega (arith, off_le x b)) h
    (λ k m.
    ⊎_elim (λ (q : k ≡ b). subst (λ (n : ℕ). bit (off_bit x b) n ≡ bit x n) (sym q) (off_same x b l ∙ sym e)) (λ (n : k ≢ b). off_other x b k l m n) (cases_eq k b))

-- clearing a bit that is off changes nothing
off_absent : (ws : List ℕ) (i : ℕ) → get_or ws (i / 64) 0 < 2 ^ 64 → bit_at ws i ≡ 0 → with_off ws i ≡ ws
unfolding bit_at with_off
off_absent ws i h e = ap (set ws (i / 64)) (off_unset (get_or ws (i / 64) 0) (i % 64) h (omega arith) e) ∙ set-get_or ws (i / 64) 0

-- the same where a mask finds it off
pub off_masked : (ws : List ℕ) (i : ℕ) → get_or ws (i / 64) 0 < 2 ^ 64 → bit_and (get_or ws (i / 64) 0) (2 ^ (i % 64)) ≡ 0 → with_off ws i ≡ ws
unfolding bit_at
off_masked ws i h e =
    let x = get_or ws (i / 64) 0 in
    let b = i % 64 in
    off_absent ws i h (omega (arith, bit_and_lem x (2 ^ b) b, bit-pow_same b, ap (λ (n : ℕ). bit n b) e, bit_of_zero b, bit_le x b))

pub off_if : (n x b : ℕ) → n ≤ 1 → x < 2 ^ 64 → b < 64 → bit_and x (2 ^ 64 - 1 - n * 2 ^ b % 2 ^ 64) ≡ pick (eqb n 1) (off_bit x b) x
unfolding pick off_bit
off_if zero x b s h l = ap (λ (m : ℕ). bit_and x (2 ^ 64 - 1 - m)) (let e : zero * 2 ^ b % 2 ^ 64 ≡ 0 = omega (arith, zero-mul (2 ^ b)) in e) ∙ and_ones x h
off_if (suc zero) x b s h l = ap (λ (m : ℕ). bit_and x (2 ^ 64 - 1 - m)) (one_shl b l)
off_if (suc (suc n)) x b s h l = absurd (omega arith)

module _ (ws ss : List ℕ) (i n : ℕ) (small : n ≤ 1) (h : get_or ws (i / 64) 0 < 2 ^ 64) where
  abbrev left : ℕ
  left = bit_and (get_or ws (i / 64) 0) (2 ^ 64 - 1 - n * 2 ^ (i % 64) % 2 ^ 64)

  is_left : left ≡ pick (eqb n 1) (off_bit (get_or ws (i / 64) 0) (i % 64)) (get_or ws (i / 64) 0)
  is_left = off_if n (get_or ws (i / 64) 0) (i % 64) small h (omega arith)

  pub words_if : set ws (i / 64) left ≡ pick (eqb n 1) (with_off ws i) ws
  unfolding with_off pick
  words_if = ap (set ws (i / 64)) is_left ∙ go (eqb n 1)
    where
      go : (t : Bool) → set ws (i / 64) (pick t (off_bit (get_or ws (i / 64) 0) (i % 64)) (get_or ws (i / 64) 0)) ≡ pick t (set ws (i / 64) (off_bit (get_or ws (i / 64) 0) (i % 64))) ws
      go true = refl
      go false = set-get_or ws (i / 64) 0

  -- the word becomes 0, or was
  pub summary_off : Summary ws ss → get_or ss (i / 64 / 64) 0 < 2 ^ 64 → left ≡ 0 → with_off ss (i / 64) ≡ pick (eqb n 1) (lowered ws ss i) ss
  unfolding Summary with_off lowered bit_at pick
  summary_off s g e = go (eqb n 1) (sym is_left ∙ e)
    where
      go : (t : Bool) → pick t (off_bit (get_or ws (i / 64) 0) (i % 64)) (get_or ws (i / 64) 0) ≡ 0 → with_off ss (i / 64) ≡ pick t (lowered ws ss i) ss
      go true z = eq_stop _ _ _ _ _ z refl
      go false z = off_absent ss (i / 64) g (omega (arith, s (i / 64), z))

  -- or it does not
  pub summary_kept : left ≢ 0 → ss ≡ pick (eqb n 1) (lowered ws ss i) ss
  unfolding lowered pick
  summary_kept d = go (eqb n 1) (λ z. d (is_left ∙ z))
    where
      go : (t : Bool) → pick t (off_bit (get_or ws (i / 64) 0) (i % 64)) (get_or ws (i / 64) 0) ≢ 0 → ss ≡ pick t (lowered ws ss i) ss
      go true z = eq_skip _ _ _ _ _ z refl
      go false z = refl
