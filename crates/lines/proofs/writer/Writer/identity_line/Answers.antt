-- `identity_line` writes the word and the bits, identity first.
use Rattle.rules.specs.Text.{text}
use Rattle.lines.specs.Written.{bits_line}
use Rattle.lines.proofs.Writing.{wrote_then, wrote_as, line_two}
use Rattle.lines.proofs.writer.Writer.identity_line.Goals as goal

pub returns-clause-wrote : goal.returns-clause-wrote
unfolding text bits_line
returns-clause-wrote c = wrote_as _ _ (line_two (text "identity") _ _) (wrote_then (wrote_then (wrote_then c.word.ensures c.bits.ensures.wrote) c.bits-2.ensures.wrote) c.word-2.ensures)
