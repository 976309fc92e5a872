-- `sweep` goes on where all starts are passed: what is covered up to the next end is added, then the ends there are passed.
use native.Mathlib.Omega.{arith}
use Rattle.interval_cover.proofs.Cutting.{amid_end, amid_stop}
use Rattle.interval_cover.proofs.Sweeping.{end_next, sweeping_end, sweeping_room, position_between, position_added, closing_step, opening_start, sweeping_again}
use Rattle.interval_cover.proofs.Cover.sweep.Goals as goal

pub extend-held-requires : goal.extend-held-requires
extend-held-requires c =
    let s = c.positions.invariant in
    record { between = position_between s (omega (arith, c.args.self.intervals.parallel)) _ (end_next _ _ _); room = sweeping_room s c.requires }

pub ends-preserved : goal.ends-preserved
ends-preserved c = closing_step c.ends.invariant (omega (arith, c.ends-test.true, c.args.self.intervals.parallel)) c.if-x-at.false

pub positions-preserved-after-ends : goal.positions-preserved-after-ends
positions-preserved-after-ends c =
    let added = position_added c.positions.invariant (omega (arith, c.args.self.intervals.parallel)) _ (end_next _ _ _) c.extend-held.ensures c.requires in
    let starts = opening_start c.ends.invariant (amid_end c.ends.invariant.closed (omega (arith, c.ends-test.false, c.args.self.intervals.parallel))) in
    sweeping_again added c.ends.invariant starts (amid_end starts.opened (omega arith))

pub positions-preserved : goal.positions-preserved
positions-preserved c =
    let added = position_added c.positions.invariant (omega (arith, c.args.self.intervals.parallel)) _ (end_next _ _ _) c.extend-held.ensures c.requires in
    let starts = opening_start c.ends.invariant (amid_stop c.ends.invariant.closed c.if-x-at.true) in
    sweeping_again added c.ends.invariant starts (amid_end starts.opened (omega arith))

pub returns : goal.returns
returns c = sweeping_end c.positions.invariant (omega (arith, c.positions-test.false, c.args.self.intervals.parallel))
