-- `store` stores the word, and raises the summary where it is not 0, once `1 << b` is read as 2 ^ b.
use mathlib.Core.Path.{refl}
use Prim.Native.Nat.{◌%◌}
use native.Mathlib.Omega.{arith}
use Rattle.base.proofs.Checks.{eq_stop, eq_skip}
use Rattle.summary_bits.specs.Bits.{with_on, on_bit}
use Rattle.summary_bits.proofs.Number.{one_shl}
use Rattle.summary_bits.proofs.store.Goals as goal

pub returns-then-word-ne0 : goal.returns-then-word-ne0
unfolding with_on on_bit
returns-then-word-ne0 c = (refl, eq_skip _ _ _ _ _ c.if-word-ne0.true (rw (one_shl (c.args.w % 64) (omega arith))))

pub returns-else-word-ne0 : goal.returns-else-word-ne0
returns-else-word-ne0 c = (refl, eq_stop _ _ _ _ _ c.if-word-ne0.false refl)
