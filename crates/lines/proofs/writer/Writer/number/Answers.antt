-- `number` writes a space, then the digits that the rules print.
use Prim.Native.Nat.{ℕ}
use mathlib.Core.Path.{ap, ◌∙◌}
use native.Mathlib.Omega.{arith}
use Rattle.rules.specs.Text.{text}
use Rattle.lines.specs.Written.{radix}
use Rattle.lines.proofs.Writing.{wrote_then, wrote_as, length-radix, decimal-radix}
use Rattle.lines.proofs.writer.Writer.number.Goals as goal

pub returns-clause-wrote : goal.returns-clause-wrote
unfolding text
returns-clause-wrote c =
    let n = c.args.n in
    wrote_then c.word.ensures (wrote_as _ _ (ap (λ (i : ℕ). radix 10 i n) c.decimal_count.ensures.count ∙ decimal-radix n) c.digits.ensures)

pub returns-clause-short : goal.returns-clause-short
returns-clause-short c =
    omega (arith, c.digits.ensures.written.next, length-radix 10 c.decimal_count.result c.args.n, c.decimal_count.ensures.few, c.word.ensures.written.next)
