-- The summary goes with the words: set and clear keep it, words that are all 0 have the summary 0, and one summary goes with given words.
-- Only the touched word's summary bit can change, and raised and lowered give it the value that the new word asks for.
use mathlib.Core.Path.{◌≡◌, refl, sym, ◌∙◌}
use mathlib.Core.Bool.{Bool, true, false}
use mathlib.Core.List.{List}
use Prim.Native.Nat.{ℕ, ◌/◌, ◌%◌, ◌^◌, ◌<◌, min}
use native.Mathlib.Omega.{arith}
use native.Mathlib.Decide.{ℕ_discrete}
use lib.Dec.{eqb}
use lib.ListN.{length, get_or, set, replicate}
use lib.Seq.{get_or-set_same, get_or-set_other}
use borrow.Author.Tests.{eqb-true, eqb-false}
use Rattle.base.specs.Pick.{pick}
use Rattle.base.proofs.Lists.{zeros_at}
use Rattle.summary_bits.specs.Bits.{bit_at, on_bit, off_bit, with_on, with_off}
use Rattle.summary_bits.specs.Summary.{Summary, raised, lowered}
use Rattle.summary_bits.proofs.Number.{on_pos, off_le}
use Rattle.summary_bits.proofs.Words.{zeros_bits, on_length, on_here, on_elsewhere, off_length, off_here, off_elsewhere, words_unique, no_bits}

pub raised-length : (ws ss : List ℕ) (i : ℕ) → length (raised ws ss i) ≡ length ss
unfolding raised pick
raised-length ws ss i = go (eqb (get_or ws (i / 64) 0) 0)
  where
    go : (t : Bool) → length (pick t (with_on ss (i / 64)) ss) ≡ length ss
    go true = on_length ss (i / 64)
    go false = refl

pub lowered-length : (ws ss : List ℕ) (i : ℕ) → length (lowered ws ss i) ≡ length ss
unfolding lowered pick
lowered-length ws ss i = go (eqb (off_bit (get_or ws (i / 64) 0) (i % 64)) 0)
  where
    go : (t : Bool) → length (pick t (with_off ss (i / 64)) ss) ≡ length ss
    go true = off_length ss (i / 64)
    go false = refl

-- set and clear keep the summary
module _ (ws ss : List ℕ) (i : ℕ) (h : i / 64 < length ws) (l : i / 64 / 64 < length ss) (s : Summary ws ss) where
  pub summary_set : Summary (with_on ws i) (raised ws ss i)
  unfolding Summary with_on raised pick
  summary_set j = go (eqb (get_or ws (i / 64) 0) 0) refl (ℕ_discrete j (i / 64))
    where
      v : ℕ
      v = on_bit (get_or ws (i / 64) 0) (i % 64)

      go : (t : Bool) → eqb (get_or ws (i / 64) 0) 0 ≡ t → Dec (j ≡ i / 64) → bit_at (pick t (with_on ss (i / 64)) ss) j ≡ min (get_or (set ws (i / 64) v) j 0) 1
      go true e (yes q) =
          rw (q, get_or-set_same ws (i / 64) v 0 h) (on_here ss (i / 64) l ∙ omega (arith, on_pos (get_or ws (i / 64) 0) (i % 64)))
      go true e (no n) = rw (get_or-set_other ws (i / 64) j v 0 n) (on_elsewhere ss (i / 64) j l n ∙ s j)
      go false e (yes q) =
          rw (q, get_or-set_same ws (i / 64) v 0 h)
          (s (i / 64) ∙ omega (arith, eqb-false (get_or ws (i / 64) 0) 0 e, on_pos (get_or ws (i / 64) 0) (i % 64)))
      go false e (no n) = rw (get_or-set_other ws (i / 64) j v 0 n) (s j)

  pub summary_clear : Summary (with_off ws i) (lowered ws ss i)
  unfolding Summary with_off lowered pick
  summary_clear j = go (eqb v 0) refl (ℕ_discrete j (i / 64))
    where
      v : ℕ
      v = off_bit (get_or ws (i / 64) 0) (i % 64)

      go : (t : Bool) → eqb v 0 ≡ t → Dec (j ≡ i / 64) → bit_at (pick t (with_off ss (i / 64)) ss) j ≡ min (get_or (set ws (i / 64) v) j 0) 1
      go true e (yes q) =
          rw (q, get_or-set_same ws (i / 64) v 0 h) (off_here ss (i / 64) l ∙ omega (arith, eqb-true v 0 e))
      go true e (no n) = rw (get_or-set_other ws (i / 64) j v 0 n) (off_elsewhere ss (i / 64) j l n ∙ s j)
      go false e (yes q) =
          rw (q, get_or-set_same ws (i / 64) v 0 h)
          (s (i / 64) ∙ omega (arith, eqb-false v 0 e, off_le (get_or ws (i / 64) 0) (i % 64)))
      go false e (no n) = rw (get_or-set_other ws (i / 64) j v 0 n) (s j)

-- one summary goes with the words
pub summary_unique : (ws ss ts : List ℕ) → length ss ≡ length ts → ((i : ℕ) → get_or ss i 0 < 2 ^ 64) → ((i : ℕ) → get_or ts i 0 < 2 ^ 64) → Summary ws ss → Summary ws ts → ss ≡ ts
unfolding Summary
summary_unique ws ss ts e hs ht a b = words_unique ss ts e hs ht (λ j. a j ∙ sym (b j))

-- words that are all 0 have the summary 0, and no other
pub zeros_summary : (n m : ℕ) → Summary (replicate n 0) (replicate m 0)
unfolding Summary
zeros_summary n m j = zeros_bits m j ∙ omega (arith, zeros_at n j)

pub clear_summary : {ws ss : List ℕ} (n m : ℕ) → ws ≡ replicate n 0 → ss ≡ replicate m 0 → Summary ws ss
clear_summary n m e f = rw (e, f) (zeros_summary n m)

pub summary_zeros : (n : ℕ) (ss : List ℕ) → ((i : ℕ) → get_or ss i 0 < 2 ^ 64) → Summary (replicate n 0) ss → ss ≡ replicate (length ss) 0
unfolding Summary
summary_zeros n ss h s = no_bits ss h (λ k. s k ∙ omega (arith, zeros_at n k))
