-- `reach_rest` passes the hashes below this one: it stops at the first that is not, and so many are below.
use native.Mathlib.Omega.{arith}
use Rattle.rules.proofs.Score.{number_most}
use Rattle.script.proofs.Reaching.{passes, most}
use Rattle.script.proofs.walk.Ascending.reach_rest.Goals as goal

pub returns-then-hash-self : goal.returns-then-hash-self
returns-then-hash-self c = let a = c.args in omega (arith, most a.self.hashes.now a.self.asc a.hash c.loop-at.at (omega arith) c.if-hash-self.true, c.loop-at.invariant)

pub loop-at-preserved : goal.loop-at-preserved
loop-at-preserved c = let a = c.args in omega (arith, passes a.self.hashes.now a.self.asc a.hash c.loop-at.at (omega arith) c.if-hash-self.false)

pub returns : goal.returns
returns c = let a = c.args in omega (arith, number_most a.self.hashes.now a.hash, c.loop-at.invariant)
