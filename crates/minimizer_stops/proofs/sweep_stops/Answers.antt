-- `sweep_stops` finds the best of all stops: the first stop's items become active, its score begins the best, and the run does the rest.
use mathlib.Core.Path.{◌≡◌, refl, sym, ◌∙◌, subst}
use mathlib.Core.Bool.{Bool}
use mathlib.Core.List.{List}
use native.Mathlib.Omega.{arith}
use Rattle.rules.specs.Minimizer.{first_stop}
use Rattle.slide_mapper.specs.State.{flags_of}
use Rattle.minimizer_stops.specs.declared.Stop.{Stop}
use Rattle.minimizer_stops.specs.Stops.{sites, stop_of, Whole}
use Rattle.minimizer_stops.proofs.Sweeping.{first_is, first_some, first_in, whole_none, whole_some}
use Rattle.minimizer_stops.proofs.sweep_stops.Goals as goal

pub fill-at-requires : goal.fill-at-requires
fill-at-requires c = record { holds = c.requires.holds; inside = omega (arith, first_in c.args.positions.now c.args.w _ _ c.from-p.ensures c.count_below-e.ensures, c.requires.parallel) }

pub run-requires : goal.run-requires
run-requires c =
    let b = c.requires in
    record {
      holds = c.fill-at.ensures.holds;
      parallel = b.parallel;
      asc = b.asc;
      some = b.some;
      small = b.small;
      order = first_some c.args.positions.now c.args.w _ _ c.from-p.ensures c.count_below-e.ensures b.asc b.some b.item;
    }

pub returns-then-goes_on : goal.returns-then-goes_on
returns-then-goes_on c =
    let from : Stop = record { b = 0; e = c.count_below-e.result; p = record { 0 = c.from-p.result } } in
    let is : stop_of from ≡ first_stop c.args.w (sites c.args.positions.now) = first_is c.args.positions.now c.args.w _ _ c.from-p.ensures c.count_below-e.ensures in
    let a = c.args in
    subst (λ (ms : List Bool). Whole ms c.args.positions.now a.numbers.now a.w a.last c.run.result) c.fill-at.ensures.kept.query
    (whole_some _ c.args.positions.now a.w a.last from c.fill-at.ensures.holds c.requires.parallel refl is (sym c.goes_on.ensures ∙ c.if-goes_on.true) c.from-p.ensures c.run.ensures)

pub returns : goal.returns
returns c =
    let from : Stop = record { b = 0; e = c.count_below-e.result; p = record { 0 = c.from-p.result } } in
    let is : stop_of from ≡ first_stop c.args.w (sites c.args.positions.now) = first_is c.args.positions.now c.args.w _ _ c.from-p.ensures c.count_below-e.ensures in
    let a = c.args in
    whole_none (flags_of a.lists.now.counts.now) c.args.positions.now a.numbers.now a.w a.last from is (sym c.goes_on.ensures ∙ c.if-goes_on.false)
