-- `before_word` answers the nearest set bit before word w: the shifted summary word leads to the last word that is not 0, or its block has none
-- below w and the blocks before it are asked.
use Prim.Native.Nat.{ℕ, ◌-◌, ◌*◌, ◌/◌, ◌%◌, ◌^◌, ◌≤◌}
use native.Mathlib.Omega.{arith}
use lib.Count.{count_leading_zeros}
use lib.ListN.{get_or}
use Rattle.base.specs.Nearest.{LastBelow}
use Rattle.summary_bits.specs.Bits.{bit_at}
use Rattle.summary_bits.proofs.Search.{upto_near, upto_at, upto_none, zero_word, word_in, word_pos, prev_found, prev_more}
use Rattle.summary_bits.proofs.seek.BitSet.before_word.Goals as goal

pub overflow_cast-low : goal.overflow_cast-low
overflow_cast-low c =
    let zeros : ℕ = count_leading_zeros 64 (get_or c.args.self.summary.now ((c.args.w - 1) / 64) 0 * 2 ^ (63 - (c.args.w - 1) % 64) % 2 ^ 64) in
    let near : zeros ≤ (c.args.w - 1) % 64 = upto_near c.args.self.summary.now (c.args.w - 1) c.args.w (omega arith) c.if-low-ne0.true in
    omega (arith, near)

pub overflow_sub-last-then-low-ne0 : goal.overflow_sub-last-then-low-ne0
overflow_sub-last-then-low-ne0 c =
    let zeros : ℕ = count_leading_zeros 64 (get_or c.args.self.summary.now ((c.args.w - 1) / 64) 0 * 2 ^ (63 - (c.args.w - 1) % 64) % 2 ^ 64) in
    let near : zeros ≤ (c.args.w - 1) % 64 = upto_near c.args.self.summary.now (c.args.w - 1) c.args.w (omega arith) c.if-low-ne0.true in
    omega (arith, near)

pub highest_in-requires : goal.highest_in-requires
highest_in-requires c =
    let zeros : ℕ = count_leading_zeros 64 (get_or c.args.self.summary.now ((c.args.w - 1) / 64) 0 * 2 ^ (63 - (c.args.w - 1) % 64) % 2 ^ 64) in
    let j : ℕ = c.args.w - 1 - zeros in
    let word : LastBelow (bit_at c.args.self.summary.now) c.args.w j = upto_at c.args.self.summary.now (c.args.w - 1) c.args.w (omega arith) c.if-low-ne0.true in
    let i = word_in c.args.self.words.now c.args.self.summary.now c.args.self.summed j word.on in
    (i, omega (arith, c.args.self.fits.small), word_pos c.args.self.words.now c.args.self.summary.now c.args.self.summed j word.on)

pub returns-then-low-ne0 : goal.returns-then-low-ne0
returns-then-low-ne0 c =
    let zeros : ℕ = count_leading_zeros 64 (get_or c.args.self.summary.now ((c.args.w - 1) / 64) 0 * 2 ^ (63 - (c.args.w - 1) % 64) % 2 ^ 64) in
    let j : ℕ = c.args.w - 1 - zeros in
    let word : LastBelow (bit_at c.args.self.summary.now) c.args.w j = upto_at c.args.self.summary.now (c.args.w - 1) c.args.w (omega arith) c.if-low-ne0.true in
    prev_found c.args.self.words.now c.args.self.summary.now c.args.self.summed c.args.w j c.highest_in.result word c.highest_in.ensures

pub returns : goal.returns
returns c = prev_more (bit_at c.args.self.words.now) ((c.args.w - 1) / 64 * 64 * 64) (c.args.w * 64) (omega arith)
    (λ k l m. zero_word c.args.self.words.now c.args.self.summary.now c.args.self.summed k (upto_none c.args.self.summary.now (c.args.w - 1) c.args.w (omega arith) c.if-low-ne0.false (k / 64) (omega arith) (omega arith)))
    c.before_block.result
    c.before_block.ensures
