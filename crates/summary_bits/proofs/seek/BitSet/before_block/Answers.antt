-- `before_block` answers the nearest set bit before the block. The loop's invariant: no summary bit from block `at` to `block` is set.
use mathlib.Core.Path.{◌≡◌, subst}
use mathlib.Core.Logic.{⊎_elim}
use Prim.Native.Nat.{ℕ, ◌+◌, ◌-◌, ◌*◌, ◌≤◌, ◌<◌}
use native.Mathlib.Omega.{arith}
use lib.ListN.{get_or}
use Rattle.base.proofs.Nearest.{last_more}
use Rattle.std.proofs.lemmas.Bool.{cases_lt}
use Rattle.summary_bits.specs.Bits.{bit_at}
use Rattle.summary_bits.proofs.Words.{bit_at-zero}
use Rattle.summary_bits.proofs.Search.{word_in, word_pos, block_in, prev_found, prev_none}
use borrow.Author.Rules.{rules}
use Rattle.summary_bits.proofs.seek.BitSet.before_block.Goals as goal

pub highest_in-requires : goal.highest_in-requires
highest_in-requires c =
    let b = c.loop-at.at - 1 in
    let p : 0 < get_or c.args.self.summary.now b 0 = omega arith in
    let i = block_in c.args.self.words.now c.args.self.summary.now c.args.self.summed b p (omega (arith, c.args.self.summary_fits b)) in
    (search rules, omega (arith, c.args.self.fits.small), p)

pub highest_in-requires-then-self-at-ne0 : goal.highest_in-requires-then-self-at-ne0
highest_in-requires-then-self-at-ne0 c =
    let s = c.args.self.summed in
    let on = c.highest_in.ensures.on in
    let i = word_in c.args.self.words.now c.args.self.summary.now s c.highest_in.result on in
    (i, omega (arith, c.args.self.fits.small), word_pos c.args.self.words.now c.args.self.summary.now s c.highest_in.result on)

pub returns-then-self-at-ne0 : goal.returns-then-self-at-ne0
returns-then-self-at-ne0 c =
    let n = c.args.block * 64 in
    prev_found c.args.self.words.now c.args.self.summary.now c.args.self.summed n c.highest_in.result c.highest_in-then-self-at-ne0.result
    (last_more (bit_at c.args.self.summary.now) ((c.loop-at.at - 1) * 64 + 64) n c.highest_in.result (omega arith) (λ k a b. c.loop-at.invariant k (omega arith) b) c.highest_in.ensures)
    c.highest_in-then-self-at-ne0.ensures

pub loop-at-preserved : goal.loop-at-preserved
loop-at-preserved c = λ k a b.
    ⊎_elim (λ (u : k < c.loop-at.at * 64). bit_at-zero c.args.self.summary.now k (subst (λ (n : ℕ). get_or c.args.self.summary.now n 0 ≡ 0) (omega arith) c.if-self-at-ne0.false))
    (λ (u : c.loop-at.at * 64 ≤ k). c.loop-at.invariant k u b)
    (cases_lt k (c.loop-at.at * 64))

pub returns : goal.returns
returns c = prev_none c.args.self.words.now c.args.self.summary.now c.args.self.summed (c.args.block * 64) (λ k m. c.loop-at.invariant k (omega arith) m)
