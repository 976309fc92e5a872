-- The bits of a list of words: after a bit is set or cleared only that bit differs, and a list of words is its bits. Each holds because
-- bit i of the list is bit i % 64 of word i / 64, so that the laws of one number carry over.
use mathlib.Core.Path.{◌≡◌, sym, ap, ap₂, ◌∙◌}
use mathlib.Core.Logic.{⊎_elim, ◌≢◌}
use mathlib.Core.List.{List}
use Prim.Native.Nat.{ℕ, ◌+◌, ◌*◌, ◌/◌, ◌%◌, ◌^◌, ◌≤◌, ◌<◌}
use native.Mathlib.Omega.{arith}
use native.Mathlib.Decide.{ℕ_discrete}
use lib.ListN.{length, get_or, set, replicate, length-set, length-replicate, get_or-eq_default}
use Rattle.base.proofs.Lists.{zeros_at}
use Rattle.std.proofs.lemmas.Bool.{cases_lt}
use lib.Seq.{get_or-set_same, get_or-set_other, ext_get_or}
use Rattle.summary_bits.specs.Bits.{bit, bit_at, on_bit, off_bit, with_on, with_off}
use Rattle.summary_bits.proofs.Number.{bits_ext, bit_le, bit_of_zero, on_same, on_other, off_same, off_other}

-- a bit of the list is a bit of its word
pub bit_in : (ws : List ℕ) (w b : ℕ) → b < 64 → bit_at ws (w * 64 + b) ≡ bit (get_or ws w 0) b
unfolding bit_at
bit_in ws w b h = ap₂ (λ (p q : ℕ). bit (get_or ws p 0) q) (omega arith) (omega arith)

pub bit_at_is : (ws : List ℕ) (w k : ℕ) → k / 64 ≡ w → bit_at ws k ≡ bit (get_or ws w 0) (k % 64)
unfolding bit_at
bit_at_is ws w k e = ap (λ (p : ℕ). bit (get_or ws p 0) (k % 64)) e

pub bit_at-le : (ws : List ℕ) (k : ℕ) → bit_at ws k ≤ 1
unfolding bit_at
bit_at-le ws k = bit_le (get_or ws (k / 64) 0) (k % 64)

-- a word that is 0 has no set bit, and none is set past the end
pub bit_at-zero : (ws : List ℕ) (k : ℕ) → get_or ws (k / 64) 0 ≡ 0 → bit_at ws k ≡ 0
unfolding bit_at
bit_at-zero ws k e = ap (λ (x : ℕ). bit x (k % 64)) e ∙ bit_of_zero (k % 64)

pub past_end : (ws : List ℕ) (k : ℕ) → length ws ≤ k / 64 → bit_at ws k ≡ 0
past_end ws k h = bit_at-zero ws k (get_or-eq_default ws 0 h)

pub on_in : (ws : List ℕ) (k : ℕ) → bit_at ws k ≡ 1 → k < length ws * 64
on_in ws k e =
    ⊎_elim (λ (l : k < length ws * 64). l) (λ (l : length ws * 64 ≤ k). absurd (omega (arith, past_end ws k (omega arith)))) (cases_lt k (length ws * 64))

-- what a store to word w does to bit k, where it keeps bit k of that word
stored : (ws : List ℕ) (w v k : ℕ) → w < length ws → (k / 64 ≡ w → bit v (k % 64) ≡ bit (get_or ws w 0) (k % 64)) → bit (get_or (set ws w v) (k / 64) 0) (k % 64) ≡ bit (get_or ws (k / 64) 0) (k % 64)
stored ws w v k h keep = go (ℕ_discrete (k / 64) w)
  where
    go : Dec (k / 64 ≡ w) → bit (get_or (set ws w v) (k / 64) 0) (k % 64) ≡ bit (get_or ws (k / 64) 0) (k % 64)
    go (yes e) = rw (e, get_or-set_same ws w v 0 h) (keep e)
    go (no n) = rw (get_or-set_other ws w (k / 64) v 0 n)

-- bit i set: it is 1, every other bit is as it was, and so is the length
module _ (ws : List ℕ) (i : ℕ) where
  pub on_length : length (with_on ws i) ≡ length ws
  unfolding with_on
  on_length = simp length-set

  pub on_here : i / 64 < length ws → bit_at (with_on ws i) i ≡ 1
  unfolding bit_at with_on
  on_here h =
      rw (get_or-set_same ws (i / 64) (on_bit (get_or ws (i / 64) 0) (i % 64)) 0 h) (on_same (get_or ws (i / 64) 0) (i % 64))

  pub on_elsewhere : (k : ℕ) → i / 64 < length ws → k ≢ i → bit_at (with_on ws i) k ≡ bit_at ws k
  unfolding bit_at with_on
  on_elsewhere k h n =
      stored ws (i / 64) (on_bit (get_or ws (i / 64) 0) (i % 64)) k h (λ e. on_other (get_or ws (i / 64) 0) (i % 64) (k % 64) (λ f. n (omega arith)))

-- bit i cleared: it is 0, every other bit is as it was, and so is the length
module _ (ws : List ℕ) (i : ℕ) where
  pub off_length : length (with_off ws i) ≡ length ws
  unfolding with_off
  off_length = simp length-set

  pub off_here : i / 64 < length ws → bit_at (with_off ws i) i ≡ 0
  unfolding bit_at with_off
  off_here h =
      rw (get_or-set_same ws (i / 64) (off_bit (get_or ws (i / 64) 0) (i % 64)) 0 h) (off_same (get_or ws (i / 64) 0) (i % 64) (omega arith))

  pub off_elsewhere : (k : ℕ) → i / 64 < length ws → k ≢ i → bit_at (with_off ws i) k ≡ bit_at ws k
  unfolding bit_at with_off
  off_elsewhere k h n =
      stored ws (i / 64) (off_bit (get_or ws (i / 64) 0) (i % 64)) k h
      (λ e. off_other (get_or ws (i / 64) 0) (i % 64) (k % 64) (omega arith) (omega arith) (λ f. n (omega arith)))

-- a list of words is its bits
pub words_unique : (ws vs : List ℕ) → length ws ≡ length vs → ((i : ℕ) → get_or ws i 0 < 2 ^ 64) → ((i : ℕ) → get_or vs i 0 < 2 ^ 64) → ((k : ℕ) → bit_at ws k ≡ bit_at vs k) → ws ≡ vs
words_unique ws vs e hw hv same =
    ext_get_or 0 ws vs e (λ i l. bits_ext 64 (get_or ws i 0) (get_or vs i 0) (hw i) (hv i) (λ k m. sym (bit_in ws i k m) ∙ same (i * 64 + k) ∙ bit_in vs i k m))

-- words with no set bit are those that are all 0
pub zeros_bits : (n k : ℕ) → bit_at (replicate n 0) k ≡ 0
zeros_bits n k = bit_at-zero (replicate n 0) k (zeros_at n (k / 64))

pub clear_bits : {ws : List ℕ} (n : ℕ) → ws ≡ replicate n 0 → (k : ℕ) → bit_at ws k ≡ 0
clear_bits n e k = ap (λ (xs : List ℕ). bit_at xs k) e ∙ zeros_bits n k

pub no_bits : (ws : List ℕ) → ((i : ℕ) → get_or ws i 0 < 2 ^ 64) → ((k : ℕ) → bit_at ws k ≡ 0) → ws ≡ replicate (length ws) 0
no_bits ws h none =
    words_unique ws (replicate (length ws) 0) (sym (length-replicate (length ws) 0)) h (λ i. omega (arith, zeros_at (length ws) i)) (λ k. none k ∙ sym (zeros_bits (length ws) k))
