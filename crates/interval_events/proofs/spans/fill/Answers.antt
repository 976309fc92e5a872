-- `fill` makes the numbers active, one by one.
use mathlib.Core.Path.{refl}
use Prim.Native.Nat.{◌<◌}
use native.Mathlib.Omega.{arith}
use lib.ListN.{length, get_or}
use Rattle.base.proofs.Lists.{all_at}
use Rattle.slide_mapper.proofs.Lent.{same_none, same_on}
use Rattle.interval_events.proofs.Spanning.{filling_start, filling_room, filling_more, step_insert, same_length}
use Rattle.interval_events.proofs.spans.fill.Goals as goal

pub loop-number-init : goal.loop-number-init
loop-number-init c = (filling_start c.requires, same_none _)

pub insert_ref-at-requires : goal.insert_ref-at-requires
insert_ref-at-requires c =
    let v = c.loop-number.invariant.0 in
    let ns = c.args.numbers.now in
    let i = c.loop-number.number-index in
    let comes : i < length ns = c.loop-number-test.true in
    record {
      at = v.pivot;
      inside = omega (arith, all_at (λ i. i < length c.args.lists.now.counts.now) ns c.requires.numbers i comes, same_length _ _ v.flags);
      room = omega (arith, filling_room v (get_or ns i 0) (omega (arith, comes, c.requires.few)));
    }

pub loop-number-preserved : goal.loop-number-preserved
loop-number-preserved c =
    let v = c.loop-number.invariant.0 in
    let ns = c.args.numbers.now in
    let i = c.loop-number.number-index in
    let comes : i < length ns = c.loop-number-test.true in
    let inside : get_or ns i 0 < length c.loop-number.lists.counts.now = omega (arith, all_at (λ i. i < length c.args.lists.now.counts.now) ns c.requires.numbers i comes, same_length _ _ v.flags) in
    (filling_more v comes (step_insert v.pivot inside 1 refl c.insert_ref-at.ensures.entered), same_on c.loop-number.invariant.1 c.insert_ref-at.ensures.same)
