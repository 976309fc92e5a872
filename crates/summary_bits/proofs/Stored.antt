-- A word stored whole: its bits are the word's, every other bit is as it was, and the summary goes with the words where the word was 0.
use mathlib.Core.Path.{◌≡◌, refl, ◌∙◌}
use mathlib.Core.Logic.{◌≢◌}
use mathlib.Core.Bool.{Bool, true, false}
use mathlib.Core.List.{List}
use Prim.Native.Nat.{ℕ, ◌/◌, ◌%◌, ◌<◌, min}
use native.Mathlib.Decide.{ℕ_discrete}
use native.Mathlib.Omega.{arith}
use lib.Dec.{eqb}
use lib.ListN.{length, get_or, set}
use lib.Seq.{get_or-set_same, get_or-set_other}
use borrow.Author.Tests.{eqb-true, eqb-false}
use Rattle.base.specs.Pick.{pick}
use Rattle.summary_bits.specs.Bits.{bit, bit_at, with_on}
use Rattle.summary_bits.specs.Summary.{Summary}
use Rattle.summary_bits.proofs.Words.{on_length, on_here, on_elsewhere}

pub stored_here : (ws : List ℕ) (w v k : ℕ) → w < length ws → k / 64 ≡ w → bit_at (set ws w v) k ≡ bit v (k % 64)
unfolding bit_at
stored_here ws w v k h e = rw (e, get_or-set_same ws w v 0 h)

pub stored_elsewhere : (ws : List ℕ) (w v k : ℕ) → k / 64 ≢ w → bit_at (set ws w v) k ≡ bit_at ws k
unfolding bit_at
stored_elsewhere ws w v k n = rw (get_or-set_other ws w (k / 64) v 0 n)

pub stored_length : (ss : List ℕ) (w v : ℕ) → length (pick (eqb v 0) ss (with_on ss w)) ≡ length ss
unfolding pick
stored_length ss w v = go (eqb v 0)
  where
    go : (t : Bool) → length (pick t ss (with_on ss w)) ≡ length ss
    go true = refl
    go false = on_length ss w

pub stored_summary : (ws ss : List ℕ) (w v : ℕ) → w < length ws → w / 64 < length ss → get_or ws w 0 ≡ 0 → Summary ws ss → Summary (set ws w v) (pick (eqb v 0) ss (with_on ss w))
unfolding Summary pick
stored_summary ws ss w v h l z s j = go (eqb v 0) refl (ℕ_discrete j w)
  where
    go : (t : Bool) → eqb v 0 ≡ t → Dec (j ≡ w) → bit_at (pick t ss (with_on ss w)) j ≡ min (get_or (set ws w v) j 0) 1
    go true e (yes q) = rw (q, get_or-set_same ws w v 0 h) (s w ∙ omega (arith, eqb-true v 0 e))
    go true e (no n) = rw (get_or-set_other ws w j v 0 n) (s j)
    go false e (yes q) = rw (q, get_or-set_same ws w v 0 h) (on_here ss w l ∙ omega (arith, eqb-false v 0 e))
    go false e (no n) = rw (get_or-set_other ws w j v 0 n) (on_elsewhere ss w j l n ∙ s j)
