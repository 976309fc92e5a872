-- `next_set_after` answers the nearest set bit after the coordinate: the shifted word has it, or it has no bit from there on and the words after it
-- are asked.
use Prim.Native.Nat.{ℕ, ◌+◌, ◌*◌, ◌/◌, ◌%◌, ◌^◌, ◌<◌}
use native.Mathlib.Omega.{arith}
use lib.Count.{count_trailing_zeros}
use lib.ListN.{get_or}
use Rattle.summary_bits.specs.Bits.{bit_at}
use Rattle.summary_bits.proofs.Words.{past_end}
use Rattle.summary_bits.proofs.Search.{from_near, from_at, from_none, next_more}
use Rattle.summary_bits.proofs.seek.BitSet.after.Goals as goal

pub returns-then-self-w : goal.returns-then-self-w
returns-then-self-w c = λ k h. past_end c.args.self.words.now k (omega arith)

pub overflow_cast-result : goal.overflow_cast-result
overflow_cast-result c =
    let i : ℕ = c.args.coord.0 + 1 in
    let small : get_or c.args.self.words.now (i / 64) 0 < 2 ^ 64 = omega (arith, c.args.self.words_fit (i / 64)) in
    let near : i % 64 + count_trailing_zeros 64 (get_or c.args.self.words.now (i / 64) 0 / 2 ^ (i % 64)) < 64 = from_near c.args.self.words.now i small c.if-high-ne0.true in
    omega (arith, near)

pub overflow_add-result : goal.overflow_add-result
overflow_add-result c =
    let i : ℕ = c.args.coord.0 + 1 in
    let small : get_or c.args.self.words.now (i / 64) 0 < 2 ^ 64 = omega (arith, c.args.self.words_fit (i / 64)) in
    let near : i % 64 + count_trailing_zeros 64 (get_or c.args.self.words.now (i / 64) 0 / 2 ^ (i % 64)) < 64 = from_near c.args.self.words.now i small c.if-high-ne0.true in
    omega (arith, near)

pub returns-then-high-ne0 : goal.returns-then-high-ne0
returns-then-high-ne0 c =
    let i : ℕ = c.args.coord.0 + 1 in
    let small : get_or c.args.self.words.now (i / 64) 0 < 2 ^ 64 = omega (arith, c.args.self.words_fit (i / 64)) in
    from_at c.args.self.words.now i small c.if-high-ne0.true

pub returns : goal.returns
returns c =
    let i : ℕ = c.args.coord.0 + 1 in
    let small : get_or c.args.self.words.now (i / 64) 0 < 2 ^ 64 = omega (arith, c.args.self.words_fit (i / 64)) in
    next_more (bit_at c.args.self.words.now) i ((i / 64 + 1) * 64) (omega arith) (λ k l m. from_none c.args.self.words.now i small c.if-high-ne0.false k l (omega arith)) c.from_word.result c.from_word.ensures
