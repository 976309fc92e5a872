-- `decimal_count` divides by ten as the rules do, at most twenty times.
use Rattle.lines.proofs.Writing.{Counting}
use Rattle.lines.proofs.writer.decimal_count.Given as goal

abbrev pub invariant-loop-count : goal.invariant-loop-count
invariant-loop-count l = Counting l.n l.m l.count
