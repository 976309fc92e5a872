-- `bits` writes a space, then 16 digits.
use mathlib.Core.Path.{sym}
use native.Mathlib.Omega.{arith}
use Rattle.rules.specs.Text.{text}
use Rattle.lines.proofs.Writing.{wrote_then, wrote_as, length-radix, hex-radix}
use Rattle.lines.proofs.writer.Writer.bits.Goals as goal

pub returns-clause-wrote : goal.returns-clause-wrote
unfolding text
returns-clause-wrote c = wrote_then c.word.ensures (wrote_as _ _ (sym (hex-radix 16 c.args.n)) c.digits.ensures)

pub returns-clause-long : goal.returns-clause-long
returns-clause-long c = omega (arith, c.digits.ensures.written.next, length-radix 16 16 c.args.n, c.word.ensures.written.next)
