-- `fill` makes the items before e active, one by one.
use mathlib.Core.Path.{refl}
use mathlib.Core.List.{List}
use Prim.Native.Nat.{ℕ, ◌+◌, ◌≤◌, ◌<◌}
use native.Mathlib.Omega.{arith}
use lib.ListN.{length, take, length-take}
use lib.Seq.{get_or-take}
use Rattle.minimizer_stops.proofs.Holding.{holds_pivot, holds_in, holds_room, holds_more, holds_at, kept_entered, kept_on, kept_none}
use Rattle.minimizer_stops.proofs.fill.Goals as goal

-- the number that a turn reads
before : {e i : ℕ} (ns : List ℕ) → i < length (take e ns) → e ≤ length ns → i < e
before {e} ns l h = omega (arith, length-take e ns)

pub loop-number-init : goal.loop-number-init
loop-number-init c = record { holds = c.requires.holds; kept = kept_none _ }

pub insert_ref-at-requires : goal.insert_ref-at-requires
insert_ref-at-requires c =
    let comes = before c.args.numbers.now c.loop-number-test.true c.requires.inside in
    let here = get_or-take c.args.e c.args.numbers.now c.loop-number.number-index 0 comes in
    let inside : c.loop-number.number-index < length c.args.numbers.now = omega (arith, comes, c.requires.inside) in
    let h = c.loop-number.invariant.holds in
    record { at = holds_pivot h; inside = rw here (holds_in h _ inside); room = rw here (holds_room h _ inside) }

pub loop-number-preserved : goal.loop-number-preserved
loop-number-preserved c =
    let comes = before c.args.numbers.now c.loop-number-test.true c.requires.inside in
    let here = get_or-take c.args.e c.args.numbers.now c.loop-number.number-index 0 comes in
    let inside : c.loop-number.number-index < length c.args.numbers.now = omega (arith, comes, c.requires.inside) in
    let v = c.loop-number.invariant in
    let k = rw here at c.insert_ref-at.ensures.entered in
    record {
      holds = holds_more v.holds 0 (c.loop-number.number-index + 1) refl refl inside k;
      kept = kept_on v.kept (kept_entered k);
    }

pub returns : goal.returns
returns c =
    let v = c.loop-number.invariant in
    record {
      holds = holds_at v.holds 0 _ refl (omega (arith, c.loop-number.auto.number-index-end, c.loop-number-test.false, length-take c.args.e c.args.numbers.now, c.requires.inside));
      kept = v.kept;
    }
