-- `fill_groups` puts the keys of the intervals of each kept group after those of the groups before it.
use Prim.Native.Nat.{ℕ}
use native.Mathlib.Omega.{arith}
use lib.ListN.{length-take}
use Rattle.interval_hits.proofs.Gathering.{filling_start, filling_within, filling_room, filling_pass, filling_keep, filling_end}
use Rattle.interval_hits.proofs.IntervalHits.fill_groups.Goals as goal

pub loop-group-init : goal.loop-group-init
loop-group-init c = filling_start c.args.self

pub loop-group-preserved-then-self-from : goal.loop-group-preserved-then-self-from
loop-group-preserved-then-self-from c = filling_pass c.loop-group.invariant c.loop-group-test.true (omega arith)

pub slice_bounds-put-end : goal.slice_bounds-put-end
slice_bounds-put-end c = filling_within c.loop-group.invariant c.loop-group-test.true

pub put-intervals-requires-clause-room : goal.put-intervals-requires-clause-room
put-intervals-requires-clause-room c = filling_room c.loop-group.invariant c.loop-group-test.true (omega (arith, length-take {A = ℕ})) c.requires

pub loop-group-preserved : goal.loop-group-preserved
loop-group-preserved c = filling_keep c.loop-group.invariant c.loop-group-test.true (omega arith) (omega arith) c.put-intervals.ensures

pub returns : goal.returns
returns c = filling_end c.loop-group.invariant c.loop-group-test.false
