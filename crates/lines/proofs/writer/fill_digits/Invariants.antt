-- `fill_digits` writes from the last digit to the first.
use Prim.Native.Nat.{◌-◌}
use lib.ListN.{length}
use Rattle.lines.proofs.Writing.{Writing}
use Rattle.lines.proofs.writer.fill_digits.Given as goal

abbrev pub invariant-loop-done : goal.invariant-loop-done
invariant-loop-done l = Writing l.base 0 (length l.initial.out) l.n l.initial.out l.out (length l.initial.out - l.done) l.m
