-- `pass_starts` goes from position to position: what is covered up to one is added, then its ends and its starts are passed, the first of each as a sum.
use Prim.Native.Nat.{◌+◌}
use native.Mathlib.Omega.{arith}
use Rattle.interval_cover.specs.Cover.{Cut}
use Rattle.interval_cover.proofs.Cutting.{amid_end, amid_stop}
use Rattle.interval_cover.proofs.Sweeping.{sweeping_start, sweeping_order, sweeping_next, sweeping_room, position_between, position_added, closing_step, closing_here, ends_begun, ends_passed, opening_step, opening_here, starts_begun, starts_passed, sweeping_again}
use Rattle.interval_cover.proofs.Cover.pass_starts.Goals.{else-ends-test, then-ends-test+then-x-at}
use Rattle.interval_cover.proofs.Cover.pass_starts.Goals as goal

pub positions-init : goal.positions-init
positions-init c = sweeping_start c.none-held.result c.none-held.ensures.written c.none-held.ensures.last

pub bounds-self-j : goal.bounds-self-j
bounds-self-j c = omega (arith, c.positions-test.true, sweeping_order c.positions.invariant, c.args.self.intervals.parallel)

pub overflow_sub-i : goal.overflow_sub-i
overflow_sub-i c = sweeping_order c.positions.invariant

pub extend-held-requires : goal.extend-held-requires
extend-held-requires c =
    let s = c.positions.invariant in
    let n = sweeping_next s c.positions-test.true c.min-at.ensures in
    record { between = position_between s n.0 _ n.1; room = sweeping_room s c.requires }

pub ends-init : goal.ends-init
ends-init c =
    let s = c.positions.invariant in
    let n = sweeping_next s c.positions-test.true c.min-at.ensures in
    closing_here (ends_begun (position_added s n.0 _ n.1 c.extend-held.ensures c.requires) n.0 c.from-j.ensures)

pub ends-preserved : goal.ends-preserved
ends-preserved c = closing_step c.ends.invariant (omega (arith, c.ends-test.true, c.args.self.intervals.parallel)) c.if-x-at.false

pub starts-init : goal.starts-init
starts-init c =
    let s = c.positions.invariant in
    let n = sweeping_next s c.positions-test.true c.min-at.ensures in
    let ends = ends_passed (position_added s n.0 _ n.1 c.extend-held.ensures c.requires) n.0 c.from-j.ensures c.ends.invariant in
    let cut : Cut c.args.self.closes.now (c.min-at.result + 1) c.ends.j = elim c.ends-test.branch [ else-ends-test w ↦ amid_end c.ends.invariant.closed (omega (arith, w.ends-test.false, c.args.self.intervals.parallel)) | then-ends-test+then-x-at w ↦ amid_stop c.ends.invariant.closed w.if-x-at.true ] in
    opening_here (starts_begun ends cut c.positions-test.true c.from-i.ensures)

pub starts-preserved : goal.starts-preserved
starts-preserved c = opening_step c.starts.invariant c.starts-test.true c.if-x-at-2.false

pub positions-preserved-after-starts : goal.positions-preserved-after-starts
positions-preserved-after-starts c =
    let s = c.positions.invariant in
    let n = sweeping_next s c.positions-test.true c.min-at.ensures in
    let added = position_added s n.0 _ n.1 c.extend-held.ensures c.requires in
    let ends = ends_passed added n.0 c.from-j.ensures c.ends.invariant in
    let cut : Cut c.args.self.closes.now (c.min-at.result + 1) c.ends.j = elim c.ends-test.branch [ else-ends-test w ↦ amid_end c.ends.invariant.closed (omega (arith, w.ends-test.false, c.args.self.intervals.parallel)) | then-ends-test+then-x-at w ↦ amid_stop c.ends.invariant.closed w.if-x-at.true ] in
    let starts = starts_passed ends cut c.positions-test.true c.from-i.ensures c.starts.invariant in
    sweeping_again added ends starts (amid_end c.starts.invariant.opened c.starts-test.false)

pub positions-preserved : goal.positions-preserved
positions-preserved c =
    let s = c.positions.invariant in
    let n = sweeping_next s c.positions-test.true c.min-at.ensures in
    let added = position_added s n.0 _ n.1 c.extend-held.ensures c.requires in
    let ends = ends_passed added n.0 c.from-j.ensures c.ends.invariant in
    let cut : Cut c.args.self.closes.now (c.min-at.result + 1) c.ends.j = elim c.ends-test.branch [ else-ends-test w ↦ amid_end c.ends.invariant.closed (omega (arith, w.ends-test.false, c.args.self.intervals.parallel)) | then-ends-test+then-x-at w ↦ amid_stop c.ends.invariant.closed w.if-x-at.true ] in
    let starts = starts_passed ends cut c.positions-test.true c.from-i.ensures c.starts.invariant in
    sweeping_again added ends starts (amid_stop c.starts.invariant.opened c.if-x-at-2.true)
