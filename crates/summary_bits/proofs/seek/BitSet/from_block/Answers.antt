-- `from_block` answers the nearest set bit from the block on. The loop's invariant: no summary bit from `block` to block `at` is set.
use mathlib.Core.Path.{◌≡◌, subst}
use mathlib.Core.Logic.{⊎_elim}
use Prim.Native.Nat.{ℕ, ◌*◌, ◌≤◌, ◌<◌}
use native.Mathlib.Omega.{arith}
use lib.ListN.{get_or}
use Rattle.base.proofs.Nearest.{first_more}
use Rattle.std.proofs.lemmas.Bool.{cases_lt}
use Rattle.summary_bits.specs.Bits.{bit_at}
use Rattle.summary_bits.proofs.Words.{bit_at-zero, past_end}
use Rattle.summary_bits.proofs.Search.{word_in, word_pos, block_in, next_found, next_none}
use borrow.Author.Rules.{rules}
use Rattle.summary_bits.proofs.seek.BitSet.from_block.Goals as goal

pub lowest_in-requires : goal.lowest_in-requires
lowest_in-requires c =
    let b = c.loop-at.at in
    let p : 0 < get_or c.args.self.summary.now b 0 = omega arith in
    let i = block_in c.args.self.words.now c.args.self.summary.now c.args.self.summed b p (omega (arith, c.args.self.summary_fits b)) in
    (search rules, omega (arith, c.args.self.fits.small), p)

pub lowest_in-requires-then-self-at-ne0 : goal.lowest_in-requires-then-self-at-ne0
lowest_in-requires-then-self-at-ne0 c =
    let s = c.args.self.summed in
    let on = c.lowest_in.ensures.on in
    let i = word_in c.args.self.words.now c.args.self.summary.now s c.lowest_in.result on in
    (i, omega (arith, c.args.self.fits.small), word_pos c.args.self.words.now c.args.self.summary.now s c.lowest_in.result on)

pub returns-then-self-at-ne0 : goal.returns-then-self-at-ne0
returns-then-self-at-ne0 c =
    let n = c.args.block * 64 in
    next_found c.args.self.words.now c.args.self.summary.now c.args.self.summed n c.lowest_in.result c.lowest_in-then-self-at-ne0.result
    (first_more (bit_at c.args.self.summary.now) n (c.loop-at.at * 64) c.lowest_in.result (omega arith) c.loop-at.invariant c.lowest_in.ensures)
    c.lowest_in-then-self-at-ne0.ensures

pub loop-at-preserved : goal.loop-at-preserved
loop-at-preserved c = λ k a b.
    ⊎_elim (λ (u : k < c.loop-at.at * 64). c.loop-at.invariant k a u)
    (λ (u : c.loop-at.at * 64 ≤ k). bit_at-zero c.args.self.summary.now k (subst (λ (n : ℕ). get_or c.args.self.summary.now n 0 ≡ 0) (omega arith) c.if-self-at-ne0.false))
    (cases_lt k (c.loop-at.at * 64))

pub returns : goal.returns
returns c = next_none c.args.self.words.now c.args.self.summary.now c.args.self.summed (c.args.block * 64)
    (λ k m.
    ⊎_elim (λ (u : k < c.loop-at.at * 64). c.loop-at.invariant k m u)
    (λ (u : c.loop-at.at * 64 ≤ k). past_end c.args.self.summary.now k (omega arith))
    (cases_lt k (c.loop-at.at * 64)))
