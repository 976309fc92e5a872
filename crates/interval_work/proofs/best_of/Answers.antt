-- `best_of` makes the events, and sweeps over them.
use mathlib.Core.Path.{refl, sym}
use Prim.Native.Nat.{◌+◌, ◌≤◌}
use native.Mathlib.Omega.{arith}
use lib.ListN.{length}
use lib.Seq.{length-take-le}
use Rattle.interval_work.proofs.Beginning.{given_local, given_few, given_sum, given_begin, given_best}
use Rattle.interval_work.proofs.best_of.Goals as goal

pub events-made-requires : goal.events-made-requires
events-made-requires c = given_local c.requires c.args.range.end

pub overflow_add-n : goal.overflow_add-n
overflow_add-n c = omega (arith, given_sum c.requires c.args.range.end c.events-made.ensures, c.requires.few)

pub slice_bounds-begun-count : goal.slice_bounds-begun-count
slice_bounds-begun-count c = omega (arith, given_few c.requires c.args.range.end c.events-made.ensures)

pub slice_bounds-sweep_events-end : goal.slice_bounds-sweep_events-end
slice_bounds-sweep_events-end c =
    let room : c.events-made.result.ends + c.events-made.result.starts ≤ length c.events-made.new.out = omega (arith, given_sum c.requires c.args.range.end c.events-made.ensures, c.requires.room, c.events-made.auto.out) in
    room

pub slice_bounds-sweep_events-end-2 : goal.slice_bounds-sweep_events-end-2
slice_bounds-sweep_events-end-2 c =
    let room : c.events-made.result.ends + c.events-made.result.starts ≤ length c.events-made.new.out = omega (arith, given_sum c.requires c.args.range.end c.events-made.ensures, c.requires.room, c.events-made.auto.out) in
    sym (length-take-le _ _ room)

pub sweep_events-requires : goal.sweep_events-requires
sweep_events-requires c = given_begin c.requires c.args.range.end c.events-made.ensures _ refl

pub returns : goal.returns
returns c = given_best c.requires c.args.range.end c.events-made.ensures _ _ refl c.sweep_events.ensures
