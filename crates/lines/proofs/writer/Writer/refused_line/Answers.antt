-- `refused_line` writes the word and two numbers.
use Rattle.rules.specs.Text.{text}
use Rattle.rules.specs.Lines.{refused_line}
use Rattle.lines.proofs.writer.Writer.refused_line.Goals as goal

pub returns : goal.returns
unfolding text refused_line
returns c = rw (c.from-number.ensures, c.from-place.ensures) at c.line.ensures.wrote
