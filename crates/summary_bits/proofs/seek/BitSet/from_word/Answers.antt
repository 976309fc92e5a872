-- `from_word` answers the nearest set bit from word w on: the shifted summary word leads to the first word that is not 0, or its block has none
-- from w on and the blocks after it are asked.
use Prim.Native.Nat.{ℕ, ◌+◌, ◌*◌, ◌/◌, ◌%◌, ◌^◌, ◌<◌}
use native.Mathlib.Omega.{arith}
use lib.Count.{count_trailing_zeros}
use lib.ListN.{get_or}
use Rattle.base.specs.Nearest.{FirstFrom}
use Rattle.summary_bits.specs.Bits.{bit_at}
use Rattle.summary_bits.proofs.Words.{past_end}
use Rattle.summary_bits.proofs.Search.{from_near, from_at, from_none, zero_word, word_in, word_pos, next_found, next_more}
use Rattle.summary_bits.proofs.seek.BitSet.from_word.Goals as goal

pub returns-then-self-w : goal.returns-then-self-w
returns-then-self-w c = λ k l. past_end c.args.self.words.now k (omega arith)

pub overflow_cast-high : goal.overflow_cast-high
overflow_cast-high c =
    let small : get_or c.args.self.summary.now (c.args.w / 64) 0 < 2 ^ 64 = omega (arith, c.args.self.summary_fits (c.args.w / 64)) in
    let zeros : ℕ = count_trailing_zeros 64 (get_or c.args.self.summary.now (c.args.w / 64) 0 / 2 ^ (c.args.w % 64)) in
    let near : c.args.w % 64 + zeros < 64 = from_near c.args.self.summary.now c.args.w small c.if-high-ne0.true in
    omega (arith, near)

pub overflow_add-w : goal.overflow_add-w
overflow_add-w c =
    let small : get_or c.args.self.summary.now (c.args.w / 64) 0 < 2 ^ 64 = omega (arith, c.args.self.summary_fits (c.args.w / 64)) in
    let zeros : ℕ = count_trailing_zeros 64 (get_or c.args.self.summary.now (c.args.w / 64) 0 / 2 ^ (c.args.w % 64)) in
    let near : c.args.w % 64 + zeros < 64 = from_near c.args.self.summary.now c.args.w small c.if-high-ne0.true in
    omega (arith, near)

pub lowest_in-requires : goal.lowest_in-requires
lowest_in-requires c =
    let zeros : ℕ = count_trailing_zeros 64 (get_or c.args.self.summary.now (c.args.w / 64) 0 / 2 ^ (c.args.w % 64)) in
    let j : ℕ = c.args.w + zeros in
    let small : get_or c.args.self.summary.now (c.args.w / 64) 0 < 2 ^ 64 = omega (arith, c.args.self.summary_fits (c.args.w / 64)) in
    let word : FirstFrom (bit_at c.args.self.summary.now) c.args.w j = from_at c.args.self.summary.now c.args.w small c.if-high-ne0.true in
    let i = word_in c.args.self.words.now c.args.self.summary.now c.args.self.summed j word.on in
    (i, omega (arith, c.args.self.fits.small), word_pos c.args.self.words.now c.args.self.summary.now c.args.self.summed j word.on)

pub returns-then-high-ne0 : goal.returns-then-high-ne0
returns-then-high-ne0 c =
    let zeros : ℕ = count_trailing_zeros 64 (get_or c.args.self.summary.now (c.args.w / 64) 0 / 2 ^ (c.args.w % 64)) in
    let j : ℕ = c.args.w + zeros in
    let small : get_or c.args.self.summary.now (c.args.w / 64) 0 < 2 ^ 64 = omega (arith, c.args.self.summary_fits (c.args.w / 64)) in
    let word : FirstFrom (bit_at c.args.self.summary.now) c.args.w j = from_at c.args.self.summary.now c.args.w small c.if-high-ne0.true in
    next_found c.args.self.words.now c.args.self.summary.now c.args.self.summed c.args.w j c.lowest_in.result word c.lowest_in.ensures

pub returns : goal.returns
returns c =
    let small : get_or c.args.self.summary.now (c.args.w / 64) 0 < 2 ^ 64 = omega (arith, c.args.self.summary_fits (c.args.w / 64)) in
    next_more (bit_at c.args.self.words.now) (c.args.w * 64) ((c.args.w / 64 + 1) * 64 * 64) (omega arith)
    (λ k l m. zero_word c.args.self.words.now c.args.self.summary.now c.args.self.summed k (from_none c.args.self.summary.now c.args.w small c.if-high-ne0.false (k / 64) (omega arith) (omega arith)))
    c.from_block.result
    c.from_block.ensures
