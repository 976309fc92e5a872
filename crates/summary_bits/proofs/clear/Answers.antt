-- `clear` leaves the words with the bit off and lowers the summary where the word becomes 0: the two stores are `with_off` once `1 << b` is read
-- as 2 ^ b, and where the summary bit is off already, `with_off` changes nothing.
use mathlib.Core.Path.{refl, sym, ap}
use Prim.Native.Nat.{ℕ, ◌/◌, ◌%◌}
use native.Mathlib.Omega.{arith}
use lib.ListN.{set}
use Rattle.base.proofs.Checks.{eq_stop, eq_skip}
use Rattle.summary_bits.specs.Bits.{with_off, off_bit}
use Rattle.summary_bits.specs.Summary.{lowered}
use Rattle.summary_bits.proofs.Number.{one_shl}
use Rattle.summary_bits.proofs.Choice.{off_masked}
use Rattle.summary_bits.proofs.clear.Goals as goal

pub returns-then-left-ne0 : goal.returns-then-left-ne0
unfolding with_off off_bit lowered
returns-then-left-ne0 c =
    let a = c.args in
    let one = one_shl (a.coord.0 % 64) (omega arith) in
    (rw one, eq_skip _ _ _ _ _ (rw one at c.if-left-ne0.true) refl)

pub returns-then-held-bit-ne0 : goal.returns-then-held-bit-ne0
unfolding with_off off_bit lowered
returns-then-held-bit-ne0 c =
    let a = c.args in
    let none = rw (one_shl (a.coord.0 % 64) (omega arith)) at c.if-left-ne0.false in
    (ap (λ (x : ℕ). set a.words.now (a.coord.0 / 64) x) (sym none), eq_stop _ _ _ _ _ none (rw (one_shl (a.coord.0 / 64 % 64) (omega arith))))

pub returns-else-held-bit-ne0 : goal.returns-else-held-bit-ne0
unfolding with_off off_bit lowered
returns-else-held-bit-ne0 c =
    let a = c.args in
    let w = a.coord.0 / 64 in
    let none = rw (one_shl (a.coord.0 % 64) (omega arith)) at c.if-left-ne0.false in (
      ap (λ (x : ℕ). set a.words.now w x) (sym none),
      eq_stop _ _ _ _ _ none (sym (off_masked a.summary.now w (omega (arith, c.type_inv.summary (w / 64))) (rw (one_shl (w % 64) (omega arith)) at c.if-held-bit-ne0.false))),
    )
