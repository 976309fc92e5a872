-- `run` scores every stop: the best so far with the stops to come is the best of all.
use mathlib.Core.Path.{◌≡◌, sym, ◌∙◌}
use mathlib.Core.Bool.{true}
use native.Mathlib.Omega.{arith}
use Rattle.rules.specs.Minimizer.{goes_on}
use Rattle.minimizer_stops.specs.Stops.{sites, stop_of, Step}
use Rattle.minimizer_stops.proofs.Moving.{goes_facts, moves_not, next_step}
use Rattle.minimizer_stops.proofs.Running.{running_start, running_end, running_room, running_at, running_few, scored_as, running_last, running_next}
use Rattle.minimizer_stops.proofs.run.Goals as goal

pub loop-at-init : goal.loop-at-init
loop-at-init c = running_start c.args.last c.args.first c.requires

pub recorded-place-requires : goal.recorded-place-requires
recorded-place-requires c =
    let go : goes_on c.args.last (sites c.args.positions.now) (stop_of c.loop-at.stop) ≡ true = sym c.goes_on.ensures ∙ c.loop-at-test.true in
    running_at c.loop-at.invariant go

pub overflow_add-windows : goal.overflow_add-windows
overflow_add-windows c =
    let go : goes_on c.args.last (sites c.args.positions.now) (stop_of c.loop-at.stop) ≡ true = sym c.goes_on.ensures ∙ c.loop-at-test.true in
    omega (arith, running_few c.loop-at.invariant go)

pub next_stop-next-requires : goal.next_stop-next-requires
next_stop-next-requires c =
    let go : goes_on c.args.last (sites c.args.positions.now) (stop_of c.loop-at.stop) ≡ true = sym c.goes_on.ensures ∙ c.loop-at-test.true in
    running_room c.loop-at.invariant go c.ranges.last.fits

pub returns-then-next-stop : goal.returns-then-next-stop
returns-then-next-stop c =
    let go : goes_on c.args.last (sites c.args.positions.now) (stop_of c.loop-at.stop) ≡ true = sym c.goes_on.ensures ∙ c.loop-at-test.true in
    running_last c.loop-at.invariant go _ (scored_as c.loop-at.invariant go _ _ c.recorded-place.ensures c.better-best.ensures)
    (moves_not c.args.positions.now c.args.w (stop_of c.loop-at.stop) (stop_of c.next_stop-next.result) c.next_stop-next.ensures c.if-next-stop.true)

pub slide-at-requires : goal.slide-at-requires
slide-at-requires c =
    let go : goes_on c.args.last (sites c.args.positions.now) (stop_of c.loop-at.stop) ≡ true = sym c.goes_on.ensures ∙ c.loop-at-test.true in
    let steps : Step c.args.numbers.now c.loop-at.stop c.next_stop-next.result = next_step c.args.positions.now c.args.numbers.now c.args.w c.loop-at.stop c.next_stop-next.result c.next_stop-next.ensures c.loop-at.invariant.start.order
    (omega (arith, (goes_facts c.args.positions.now c.args.last (stop_of c.loop-at.stop) go).0, c.loop-at.invariant.start.parallel)) in
    record { holds = c.loop-at.invariant.start.holds; step = steps }

pub loop-at-smaller : goal.loop-at-smaller
loop-at-smaller c =
    let go : goes_on c.args.last (sites c.args.positions.now) (stop_of c.loop-at.stop) ≡ true = sym c.goes_on.ensures ∙ c.loop-at-test.true in
    let steps : Step c.args.numbers.now c.loop-at.stop c.next_stop-next.result = next_step c.args.positions.now c.args.numbers.now c.args.w c.loop-at.stop c.next_stop-next.result c.next_stop-next.ensures c.loop-at.invariant.start.order
    (omega (arith, (goes_facts c.args.positions.now c.args.last (stop_of c.loop-at.stop) go).0, c.loop-at.invariant.start.parallel)) in
    omega (arith, steps.further, steps.inside, (goes_facts c.args.positions.now c.args.last (stop_of c.loop-at.stop) go).0, c.loop-at.invariant.start.order)

pub loop-at-preserved : goal.loop-at-preserved
loop-at-preserved c =
    let go : goes_on c.args.last (sites c.args.positions.now) (stop_of c.loop-at.stop) ≡ true = sym c.goes_on.ensures ∙ c.loop-at-test.true in
    running_next c.loop-at.invariant go _ (scored_as c.loop-at.invariant go _ _ c.recorded-place.ensures c.better-best.ensures) c.next_stop-next.result c.next_stop-next.ensures c.if-next-stop.false
    c.slide-at.ensures.holds c.slide-at.ensures.kept

pub returns : goal.returns
returns c = running_end c.loop-at.invariant (sym c.goes_on.ensures ∙ c.loop-at-test.false)
