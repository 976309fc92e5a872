-- `mark` sets the count word of a query hash a turn, at its place.
use Prim.Native.Nat.{◌<◌}
use native.Mathlib.Omega.{arith}
use lib.ListN.{length}
use Rattle.std.proofs.Common.{length-take-le}
use Rattle.script_work.proofs.Marks.{marking_start, marking_in, marking_step, place_at}
use Rattle.script_work.proofs.mark.Goals as goal

pub loop-place-init : goal.loop-place-init
loop-place-init c = marking_start _ _ _ c.requires

pub bounds-counts-place : goal.bounds-counts-place
bounds-counts-place c =
    let i_in : c.loop-place.place-index < length c.args.query.hashes.now = omega (arith, length-take-le (length c.args.query.hashes.now) c.args.query.places.now c.args.query.room) in
    marking_in c.args.query.sound c.loop-place.invariant i_in _ (place_at c.args.query.placed i_in)

pub loop-place-preserved : goal.loop-place-preserved
loop-place-preserved c =
    let i_in : c.loop-place.place-index < length c.args.query.hashes.now = omega (arith, length-take-le (length c.args.query.hashes.now) c.args.query.places.now c.args.query.room) in
    marking_step c.args.query.sound c.loop-place.invariant i_in _ (place_at c.args.query.placed i_in)
