-- `first_missing` walks from hash to hash, and stops at the first whose place has another coordinate or none.
use mathlib.Core.Path.{◌≡◌}
use Rattle.rules.specs.Checks.{first_missing}
use native.Mathlib.Omega.{arith}
use Rattle.script.proofs.Checking.{found_some, found_none, placed_to, finding_more, finding_past, finding_other, finding_end}
use Rattle.script.proofs.checks.first_missing.Goals as goal
use Rattle.script.proofs.checks.first_missing.Goals.{then-coords-at-via-then-coords-at, then-coords-at-via-else-coords-at+then-coords-at-2}

pub returns-then-coords-at : goal.returns-then-coords-at
returns-then-coords-at c =
    let i = c.loop-i.invariant in
    let here : c.loop-i.i ≡ first_missing c.args.coords.hashes.now c.args.query.hashes.now =
    elim c.then-coords-at.branch [
      | then-coords-at-via-then-coords-at w ↦ finding_past i c.args.query.asc c.args.coords.asc c.loop-i-test.true _ c.reach-at.ensures w.if-coords-at.true
      | then-coords-at-via-else-coords-at+then-coords-at-2 w ↦ finding_other i c.args.query.asc c.args.coords.asc c.loop-i-test.true _ c.reach-at.ensures w.if-coords-at-2.true
    ] in
    record { missing = found_some here c.loop-i-test.true; placed = placed_to here i.placed }

pub loop-i-preserved : goal.loop-i-preserved
loop-i-preserved c = finding_more c.loop-i.invariant c.args.query.asc c.args.coords.asc c.loop-i-test.true _ c.reach-at.ensures c.if-coords-at.false c.if-coords-at-2.false (omega arith)

pub returns : goal.returns
returns c = let here = finding_end c.loop-i.invariant c.loop-i-test.false in record { missing = found_none here (omega arith); placed = placed_to here c.loop-i.invariant.placed }
