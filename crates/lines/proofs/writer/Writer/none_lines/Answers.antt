-- `none_lines` writes one line behind the other.
use Rattle.rules.specs.Text.{text}
use Rattle.lines.proofs.Writing.{wrote_then}
use Rattle.lines.proofs.writer.Writer.none_lines.Goals as goal

pub returns : goal.returns
unfolding text
returns c = wrote_then c.line.ensures.wrote c.counts_line.ensures
