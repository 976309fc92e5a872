-- `line` keeps the line so far.
use Rattle.lines.proofs.Writing.{Lining}
use Rattle.lines.proofs.writer.Writer.line.Given as goal

abbrev pub invariant-loop-number : goal.invariant-loop-number
invariant-loop-number l = Lining l.word l.numbers l.fn.self l.self l.number-index
