-- `decimal_count` divides by ten as the rules do, at most twenty times.
use native.Mathlib.Omega.{arith}
use Rattle.lines.proofs.Writing.{counting_start, counting_stop, counting_step, counting_end}
use Rattle.lines.proofs.writer.decimal_count.Goals as goal

pub loop-count-init : goal.loop-count-init
loop-count-init c = counting_start c.args.n

pub returns-then-m-lt10-clause-count : goal.returns-then-m-lt10-clause-count
returns-then-m-lt10-clause-count c = counting_stop c.loop-count.invariant c.if-m-lt10.true

pub loop-count-preserved : goal.loop-count-preserved
loop-count-preserved c = counting_step c.loop-count.invariant c.loop-count-test.true c.if-m-lt10.false

pub returns-clause-count : goal.returns-clause-count
returns-clause-count c = omega (arith, counting_end c.loop-count.invariant (omega arith))
