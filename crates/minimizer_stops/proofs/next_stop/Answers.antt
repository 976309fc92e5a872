-- `next_stop` is the rules' `next_stop`: the two distances are compared, and each order of them is one of its cases.
use mathlib.Core.Path.{refl}
use native.Mathlib.Omega.{arith}
use Rattle.minimizer_stops.specs.Stops.{stop_of}
use Rattle.minimizer_stops.proofs.Moving.{next_begin, next_end, next_both}
use Rattle.minimizer_stops.proofs.next_stop.Goals as goal

pub returns-then-to_begin-to_end : goal.returns-then-to_begin-to_end
returns-then-to_begin-to_end c =
    let a = c.args in
    next_begin a.positions.now a.w (stop_of a.stop) (omega arith) _ refl refl (omega arith)

pub returns-then-to_end-to_begin : goal.returns-then-to_end-to_begin
returns-then-to_end-to_begin c =
    let a = c.args in
    next_end a.positions.now a.w (stop_of a.stop) (omega arith) _ refl refl (omega arith)

pub returns : goal.returns
returns c =
    let a = c.args in
    next_both a.positions.now a.w (stop_of a.stop) (omega arith) _ refl refl (omega arith)
