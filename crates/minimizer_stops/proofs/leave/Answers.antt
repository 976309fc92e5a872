-- `leave` lets item b go where the next stop begins past it: it is deleted, once.
use mathlib.Core.Path.{◌≡◌, refl}
use Prim.Native.Nat.{◌+◌}
use native.Mathlib.Omega.{arith}
use Rattle.minimizer_stops.proofs.Holding.{holds_pivot, holds_in, holds_less, holds_at, kept_left, kept_none}
use Rattle.minimizer_stops.proofs.leave.Goals as goal

pub returns-then-next-stop : goal.returns-then-next-stop
returns-then-next-stop c = record { holds = holds_at c.requires.holds _ _ c.if-next-stop.true refl; kept = kept_none _ }

pub delete_ref-requires : goal.delete_ref-requires
delete_ref-requires c = record { at = holds_pivot c.requires.holds; inside = holds_in c.requires.holds _ (omega (arith, c.requires.step.order, c.requires.holds.inside)) }

pub returns : goal.returns
returns c =
    let left : c.args.next.b ≡ c.args.stop.b + 1 = omega (arith, c.requires.step.begin_up, c.requires.step.begin_one) in
    record {
      holds = holds_less c.requires.holds c.args.next.b c.args.stop.e left refl c.requires.step.order c.delete_ref.ensures.left;
      kept = kept_left c.delete_ref.ensures.left;
    }
