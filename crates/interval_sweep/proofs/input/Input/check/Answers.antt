-- `check` answers the first refusal of the chain of checks, and what the fine sizes tell lets the others be asked.
use mathlib.Core.Path.{sym}
use native.Mathlib.Omega.{arith}
use Rattle.std.proofs.lemmas.Result.{err_from_is_err_and}
use Rattle.interval_sweep.proofs.Checking.{sizes_fine, refused_sizes, refused_orders, refused_table, refused_needs, left_to_events, passed}
use Rattle.interval_sweep.proofs.input.Input.check.Goals as goal

pub returns-in_err-check_sizes-clause-verdict : goal.returns-in_err-check_sizes-clause-verdict
returns-in_err-check_sizes-clause-verdict c =
    let p = err_from_is_err_and c.from_residual.result c.from_residual.ensures.1 in
    rw (p.1, p.2) (refused_sizes c.args.self c.args.lent c.args.events _ (sym c.in_err-check_sizes.ensures))

pub check_orders-requires : goal.check_orders-requires
check_orders-requires c =
    let small = sizes_fine c.args.self c.args.lent c.args.events (sym c.in_ok-check_sizes.ensures) in
    (omega (arith, small.0), omega (arith, small.2))

pub returns-in_err-check_orders-clause-verdict : goal.returns-in_err-check_orders-clause-verdict
returns-in_err-check_orders-clause-verdict c =
    let p = err_from_is_err_and c.from_residual-in_err-check_orders.result c.from_residual-in_err-check_orders.ensures.1 in
    rw (p.1, p.2) (refused_orders c.args.self c.args.lent c.args.events (sym c.in_ok-check_sizes.ensures) _ (sym c.in_err-check_orders.ensures))

pub check_table-requires : goal.check_table-requires
check_table-requires c = let small = sizes_fine c.args.self c.args.lent c.args.events (sym c.in_ok-check_sizes.ensures) in omega (arith, small.0)

pub returns-in_err-check_table-clause-verdict : goal.returns-in_err-check_table-clause-verdict
returns-in_err-check_table-clause-verdict c =
    let p = err_from_is_err_and c.from_residual-in_err-check_table.result c.from_residual-in_err-check_table.ensures.1 in
    rw (p.1, p.2) (refused_table c.args.self c.args.lent c.args.events (sym c.in_ok-check_sizes.ensures) (sym c.in_ok-check_orders.ensures) _ (sym c.in_err-check_table.ensures))

pub returns-in_err-check_needs-clause-verdict : goal.returns-in_err-check_needs-clause-verdict
returns-in_err-check_needs-clause-verdict c =
    let p = err_from_is_err_and c.from_residual-in_err-check_needs.result c.from_residual-in_err-check_needs.ensures.1 in
    rw (p.1, p.2) (refused_needs c.args.self c.args.lent c.args.events (sym c.in_ok-check_sizes.ensures) (sym c.in_ok-check_orders.ensures) (sym c.in_ok-check_table.ensures) _ (sym c.in_err-check_needs.ensures))

pub check_events-requires : goal.check_events-requires
check_events-requires c = let small = sizes_fine c.args.self c.args.lent c.args.events (sym c.in_ok-check_sizes.ensures) in omega (arith, small.1)

pub returns : goal.returns
returns c =
    let e = left_to_events c.args.self c.args.lent c.args.events (sym c.in_ok-check_sizes.ensures) (sym c.in_ok-check_orders.ensures) (sym c.in_ok-check_table.ensures) _ (sym c.in_ok-check_needs.ensures) c.check_events.ensures in
    record { verdict = e; passed = passed c.args.self c.args.lent c.args.events _ e }
