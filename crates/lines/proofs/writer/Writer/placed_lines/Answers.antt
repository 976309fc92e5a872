-- `placed_lines` writes three lines, one behind the other.
use mathlib.Core.List.{append_assoc}
use Rattle.rules.specs.Text.{text}
use Rattle.rules.specs.Lines.{mapped_line, counts_line}
use Rattle.lines.specs.Written.{bits_line}
use Rattle.lines.proofs.Writing.{wrote_then, wrote_as}
use Rattle.lines.proofs.writer.Writer.placed_lines.Goals as goal

pub returns : goal.returns
unfolding text mapped_line
returns c =
    let a = c.args in
    wrote_as _ _ (append_assoc (mapped_line a.place) (bits_line a.identity a.upper) (counts_line a.stats)) (wrote_then (wrote_then (rw (c.from-shared.ensures, c.from-size.ensures) at c.line.ensures.wrote) c.identity_line.ensures.wrote) c.counts_line.ensures)
