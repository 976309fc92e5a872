-- `set` leaves the words with the bit on and raises the summary as the word was: the two stores are `with_on` once `1 << b` is read as 2 ^ b.
use mathlib.Core.Path.{refl}
use Prim.Native.Nat.{◌/◌, ◌%◌}
use native.Mathlib.Omega.{arith}
use Rattle.base.proofs.Checks.{eq_stop, eq_skip}
use Rattle.summary_bits.specs.Bits.{with_on, on_bit}
use Rattle.summary_bits.specs.Summary.{raised}
use Rattle.summary_bits.proofs.Number.{one_shl}
use Rattle.summary_bits.proofs.set.Goals as goal

pub returns-then-old-eq0 : goal.returns-then-old-eq0
unfolding with_on on_bit raised
returns-then-old-eq0 c =
    let a = c.args in (
      rw (one_shl (a.coord.0 % 64) (omega arith)),
      eq_stop _ _ _ _ _ c.if-old-eq0.true (rw (one_shl (a.coord.0 / 64 % 64) (omega arith))),
    )

pub returns-else-old-eq0 : goal.returns-else-old-eq0
unfolding with_on on_bit raised
returns-else-old-eq0 c =
    let a = c.args in
    (rw (one_shl (a.coord.0 % 64) (omega arith)), eq_skip _ _ _ _ _ c.if-old-eq0.false refl)
