-- `enter` takes item e in where the next stop ends past it: it is inserted, once.
use mathlib.Core.Path.{◌≡◌, refl}
use Prim.Native.Nat.{◌<◌, ◌+◌}
use native.Mathlib.Omega.{arith}
use lib.ListN.{length}
use Rattle.minimizer_stops.proofs.Holding.{holds_pivot, holds_in, holds_room, holds_more, holds_at, kept_entered, kept_none}
use Rattle.minimizer_stops.proofs.enter.Goals as goal

pub returns-then-next-stop : goal.returns-then-next-stop
returns-then-next-stop c = record { holds = holds_at c.requires.holds _ _ refl c.if-next-stop.true; kept = kept_none _ }

pub insert_ref-requires : goal.insert_ref-requires
insert_ref-requires c =
    let comes_one : c.args.next.e ≡ c.args.stop.e + 1 = omega (arith, c.requires.step.end_up, c.requires.step.end_one) in
    let comes : c.args.stop.e < length c.args.numbers.now = omega (arith, comes_one, c.requires.step.inside) in
    record { at = holds_pivot c.requires.holds; inside = holds_in c.requires.holds _ comes; room = holds_room c.requires.holds _ comes }

pub returns : goal.returns
returns c =
    let comes_one : c.args.next.e ≡ c.args.stop.e + 1 = omega (arith, c.requires.step.end_up, c.requires.step.end_one) in
    let comes : c.args.stop.e < length c.args.numbers.now = omega (arith, comes_one, c.requires.step.inside) in
    let n = c.args.next in
    record {
      holds = holds_more c.requires.holds n.b n.e refl comes_one comes c.insert_ref.ensures.entered;
      kept = kept_entered c.insert_ref.ensures.entered;
    }
