-- `reach` passes four hashes while all four are below this one; where fewer are, or fewer than four are left, the rest tells the number.
use native.Mathlib.Omega.{arith}
use Rattle.rules.proofs.Score.{number_most}
use Rattle.script.proofs.walk.Ascending.reach.Goals as goal

pub overflow_add-at : goal.overflow_add-at
overflow_add-at c = let a = c.args in omega (arith, number_most a.self.hashes.now a.hash, c.loop-at.invariant)
