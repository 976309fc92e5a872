-- `sweep_part` takes, numbers, and sweeps.
use mathlib.Core.Path.{sym}
use Prim.Native.Nat.{◌≤◌, ◌<◌}
use native.Mathlib.Omega.{arith}
use lib.ListN.{length}
use lib.Seq.{length-take-le}
use Rattle.interval_work.proofs.Parting.{part_few, part_rooms, part_none, part_coords_few, part_given, part_found}
use Rattle.interval_work.proofs.sweep_part.Goals as goal

pub returns-then-n-eq0-clause-found : goal.returns-then-n-eq0-clause-found
returns-then-n-eq0-clause-found c = part_none c.requires c.args.range.start c.take-n.ensures c.if-n-eq0.true c.args.range.end

pub number-c-requires : goal.number-c-requires
number-c-requires c = part_rooms c.requires c.args.range.start c.take-n.ensures

pub slice_bounds-best_of-end : goal.slice_bounds-best_of-end
slice_bounds-best_of-end c = omega (arith, part_few c.requires c.args.range.start c.take-n.ensures, c.requires.coord_room, c.number-c.auto.coords)

pub slice_bounds-best_of-end-3 : goal.slice_bounds-best_of-end-3
slice_bounds-best_of-end-3 c =
    let room : c.number-c.result ≤ length c.number-c.new.counts = omega (arith, part_coords_few c.requires c.args.range.start c.take-n.ensures c.number-c.ensures, part_few c.requires c.args.range.start c.take-n.ensures, c.requires.count_room.long, c.number-c.auto.counts) in
    room

pub slice_bounds-best_of-end-4 : goal.slice_bounds-best_of-end-4
slice_bounds-best_of-end-4 c =
    let room : c.number-c.result ≤ length c.number-c.new.counts = omega (arith, part_coords_few c.requires c.args.range.start c.take-n.ensures c.number-c.ensures, part_few c.requires c.args.range.start c.take-n.ensures, c.requires.count_room.long, c.number-c.auto.counts) in
    sym (length-take-le _ _ room)

pub best_of-best-requires : goal.best_of-best-requires
best_of-best-requires c = part_given c.requires c.args.range.start c.take-n.ensures c.number-c.ensures _ _ c.number-c.auto.keys c.take-n.auto.out

pub overflow_cast-result : goal.overflow_cast-result
overflow_cast-result c = omega (arith, part_coords_few c.requires c.args.range.start c.take-n.ensures c.number-c.ensures, part_few c.requires c.args.range.start c.take-n.ensures, c.requires.few_hashes, c.requires.few_items)

pub returns-clause-found : goal.returns-clause-found
returns-clause-found c =
    let some : 0 < c.take-n.result = omega (arith, c.if-n-eq0.false) in
    part_found c.requires c.args.range.start c.take-n.ensures c.number-c.ensures some c.best_of-best.result c.args.range.end c.best_of-best.ensures
