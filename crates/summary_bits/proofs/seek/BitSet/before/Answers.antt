-- `prev_set_before` answers the nearest set bit before the coordinate: the shifted word has it, or it has no bit up to there and the words before it
-- are asked.
use Prim.Native.Nat.{◌-◌, ◌*◌, ◌/◌, ◌%◌, ◌^◌}
use native.Mathlib.Omega.{arith}
use lib.Count.{leading_le}
use lib.ListN.{get_or}
use Rattle.summary_bits.specs.Bits.{bit_at}
use Rattle.summary_bits.proofs.Search.{upto_near, upto_at, upto_none, prev_more}
use Rattle.summary_bits.proofs.seek.BitSet.before.Goals as goal

pub overflow_cast-result : goal.overflow_cast-result
overflow_cast-result c = omega (arith, leading_le 64 (get_or c.args.self.words.now ((c.args.coord.0 - 1) / 64) 0 * 2 ^ (63 - (c.args.coord.0 - 1) % 64) % 2 ^ 64))

pub overflow_sub-result : goal.overflow_sub-result
overflow_sub-result c = omega (arith, upto_near c.args.self.words.now (c.args.coord.0 - 1) c.args.coord.0 (omega arith) c.if-low-ne0.true)

pub returns-then-low-ne0 : goal.returns-then-low-ne0
returns-then-low-ne0 c = upto_at c.args.self.words.now (c.args.coord.0 - 1) c.args.coord.0 (omega arith) c.if-low-ne0.true

pub returns : goal.returns
returns c = prev_more (bit_at c.args.self.words.now) ((c.args.coord.0 - 1) / 64 * 64) c.args.coord.0 (omega arith) (upto_none c.args.self.words.now (c.args.coord.0 - 1) c.args.coord.0 (omega arith) c.if-low-ne0.false) c.before_word.result c.before_word.ensures
