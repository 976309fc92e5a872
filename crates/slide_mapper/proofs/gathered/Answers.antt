-- `gathered` puts four count words a turn where their bits stand, and those that are left one a turn.
use mathlib.Core.Path.{◌≡◌, refl, subst}
use Prim.Native.Nat.{ℕ, ◌+◌, ◌-◌}
use native.Mathlib.Omega.{arith}
use Rattle.slide_mapper.specs.State.{Gathered}
use Rattle.slide_mapper.proofs.First.{gathered_none, gathered_one, gathered_more}
use Rattle.slide_mapper.proofs.gathered.Goals as goal

pub loop-i-init : goal.loop-i-init
loop-i-init c = (omega arith, omega arith, gathered_none c.args.counts.now c.args.from)

pub loop-i-preserved : goal.loop-i-preserved
loop-i-preserved c = (omega arith, omega arith, gathered_more (c.loop-i.i - c.args.from) c.loop-i.invariant.2 c.four_of.ensures (omega arith) (omega arith) (omega arith))

pub loop-j-init : goal.loop-j-init
loop-j-init c = c.loop-i.invariant.2

pub loop-j-preserved : goal.loop-j-preserved
loop-j-preserved c =
    let one = gathered_one c.args.counts.now c.loop-j.j (c.loop-j.j + 1) refl (c.requires.3 c.loop-j.j) in
    rw c.from.ensures (gathered_more (c.loop-j.j - c.args.from) c.loop-j.invariant one (omega arith) (omega arith) (omega arith))

pub returns : goal.returns
returns c =
    let e : c.loop-j.j ≡ c.args.end = omega (arith, c.loop-j.auto.j-end, c.loop-i.invariant.1, c.loop-j-test.false) in
    subst (λ (n : ℕ). Gathered c.args.counts.now c.args.from n c.loop-j.word) e c.loop-j.invariant
