-- `before_block` answers the nearest set bit before the block. The loop's invariant: no summary bit from block `at` to `block` is set.
use mathlib.Core.Path.{◌≡◌}
use Prim.Native.Nat.{ℕ, ◌*◌, ◌≤◌, ◌<◌}
use Rattle.summary_bits.specs.Bits.{bit_at}
use Rattle.summary_bits.proofs.seek.BitSet.before_block.Given as goal

abbrev pub invariant-loop-at : goal.invariant-loop-at
invariant-loop-at l = (k : ℕ) → l.at * 64 ≤ k → k < l.block * 64 → bit_at l.self.summary.now k ≡ 0
