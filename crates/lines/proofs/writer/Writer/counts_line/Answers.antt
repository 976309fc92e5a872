-- `counts_line` writes the word and three numbers.
use Rattle.rules.specs.Text.{text}
use Rattle.rules.specs.Lines.{counts_line}
use Rattle.lines.proofs.writer.Writer.counts_line.Goals as goal

pub returns : goal.returns
unfolding text counts_line
returns c = rw (c.from-coords.ensures, c.from-items.ensures) at c.line.ensures.wrote
