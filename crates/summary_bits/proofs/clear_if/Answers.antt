-- `clear_if` is `clear` where its last argument is 1; where it is 0 the words are stored as they were, and the summary bit of a word that is 0
-- was off before.
use Prim.Native.Nat.{◌/◌, ◌%◌, ◌^◌, ◌<◌}
use native.Mathlib.Omega.{arith}
use lib.ListN.{get_or}
use Rattle.summary_bits.specs.Bits.{with_off, off_bit}
use Rattle.summary_bits.proofs.Number.{one_shl}
use Rattle.summary_bits.proofs.Choice.{words_if, summary_off, summary_kept}
use Rattle.summary_bits.proofs.clear_if.Goals as goal

pub returns-then-left-eq0 : goal.returns-then-left-eq0
unfolding with_off off_bit
returns-then-left-eq0 c =
    let a = c.args in
    let i = a.coord.0 in
    let h : get_or a.words.now (i / 64) 0 < 2 ^ 64 = omega (arith, c.slice_known-1.given (i / 64)) in (
      words_if a.words.now a.summary.now i a.one c.requires.3 h,
      rw (one_shl (i / 64 % 64) (omega arith)) (summary_off a.words.now a.summary.now i a.one c.requires.3 h c.requires.1 (omega (arith, c.slice_known-then-left-eq0-1.given (i / 64 / 64))) c.if-left-eq0.true),
    )

pub returns-else-left-eq0 : goal.returns-else-left-eq0
returns-else-left-eq0 c =
    let a = c.args in
    let h : get_or a.words.now (a.coord.0 / 64) 0 < 2 ^ 64 = omega (arith, c.slice_known-1.given (a.coord.0 / 64)) in
    (words_if a.words.now a.summary.now a.coord.0 a.one c.requires.3 h, summary_kept a.words.now a.summary.now a.coord.0 a.one c.requires.3 h c.if-left-eq0.false)
