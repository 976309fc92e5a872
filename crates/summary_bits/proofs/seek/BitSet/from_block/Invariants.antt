-- `from_block` answers the nearest set bit from the block on. The loop's invariant: no summary bit from `block` to block `at` is set.
use mathlib.Core.Path.{◌≡◌}
use Prim.Native.Nat.{ℕ, ◌*◌, ◌≤◌, ◌<◌}
use Rattle.summary_bits.specs.Bits.{bit_at}
use Rattle.summary_bits.proofs.seek.BitSet.from_block.Given as goal

abbrev pub invariant-loop-at : goal.invariant-loop-at
invariant-loop-at l = (k : ℕ) → l.block * 64 ≤ k → k < l.at * 64 → bit_at l.self.summary.now k ≡ 0
