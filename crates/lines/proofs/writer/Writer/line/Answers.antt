-- `line` writes the word, then number by number.
use Rattle.rules.specs.Text.{text}
use Rattle.lines.proofs.Writing.{lining_start, lining_step, lining_end}
use Rattle.lines.proofs.writer.Writer.line.Goals as goal

pub loop-number-init : goal.loop-number-init
loop-number-init c = lining_start c.word.ensures

pub loop-number-preserved : goal.loop-number-preserved
loop-number-preserved c = lining_step c.loop-number.invariant c.loop-number-test.true c.number.ensures.wrote c.number.ensures.short

pub returns-clause-wrote : goal.returns-clause-wrote
unfolding text
returns-clause-wrote c = lining_end c.loop-number.invariant c.loop-number-test.false c.word-2.ensures
