-- `fill_digits` writes from the last digit to the first.
use Prim.Native.Nat.{◌+◌, ◌-◌}
use mathlib.Core.Path.{◌≡◌}
use native.Mathlib.Omega.{arith}
use lib.ListN.{length}
use Rattle.lines.proofs.Writing.{writing_step, filled_digits}
use Rattle.lines.proofs.writer.fill_digits.Goals as goal

pub loop-done-preserved : goal.loop-done-preserved
loop-done-preserved c =
    let a = c.args in
    let d = c.loop-done.done in
    let place : length a.out.now - 1 - d ≡ 0 + (length a.out.now - (d + 1)) = omega arith in
    rw place (writing_step a.base 0 (length a.out.now) a.n a.out.now c.loop-done.invariant (length a.out.now - (d + 1)) _ (omega (arith, c.loop-done-test.true)) c.digit.ensures)

pub returns : goal.returns
returns c = filled_digits c.args.base c.args.n c.args.out.now _ _ _ c.loop-done.invariant (omega (arith, c.loop-done-test.false))
