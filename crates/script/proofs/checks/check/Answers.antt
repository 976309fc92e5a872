-- `check` answers the first refusal of the chain of checks, and what each fine one tells lets the next be asked.
use mathlib.Core.Path.{sym}
use native.Mathlib.Omega.{arith}
use Rattle.std.proofs.lemmas.Result.{err_from_is_err_and}
use Rattle.script.specs.Given.{asked, lengths_of}
use Rattle.script.proofs.Checking.{refused_sizes, refused_orders, refused_members, left_to_needs, sizes_fine, orders_fine, members_fine, placed_all, all_ok}
use Rattle.script.proofs.checks.check.Goals as goal

pub returns-in_err-check_sizes-clause-verdict : goal.returns-in_err-check_sizes-clause-verdict
returns-in_err-check_sizes-clause-verdict c =
    let p = err_from_is_err_and c.from_residual.result c.from_residual.ensures.1 in
    rw (p.1, p.2) (refused_sizes (asked c.args.input) (lengths_of c.args.lent) _ (sym c.in_err-check_sizes.ensures))

pub check_orders-requires : goal.check_orders-requires
check_orders-requires c =
    let z = sizes_fine (asked c.args.input) (sym c.in_ok-check_sizes.ensures) in
    record { query = omega (arith, z.few_hashes); coords = omega (arith, z.few_coords) }

pub returns-in_err-check_orders-clause-verdict : goal.returns-in_err-check_orders-clause-verdict
returns-in_err-check_orders-clause-verdict c =
    let p = err_from_is_err_and c.from_residual-in_err-check_orders.result c.from_residual-in_err-check_orders.ensures.1 in
    rw (p.1, p.2) (refused_orders (asked c.args.input) (lengths_of c.args.lent) (sym c.in_ok-check_sizes.ensures) _ (sym c.in_err-check_orders.ensures))

pub check_members-requires : goal.check_members-requires
check_members-requires c =
    let z = sizes_fine (asked c.args.input) (sym c.in_ok-check_sizes.ensures) in
    let o = orders_fine (asked c.args.input) (sym c.in_ok-check_orders.ensures) in
    record { sized = z; query_asc = o.1; coords_asc = o.2; room = omega (arith, z.few_hashes, c.requires) }

pub returns-in_err-check_members-clause-verdict : goal.returns-in_err-check_members-clause-verdict
returns-in_err-check_members-clause-verdict c =
    let p = err_from_is_err_and c.from_residual-in_err-check_members.result c.from_residual-in_err-check_members.ensures.1 in
    rw (p.1, p.2)
    (refused_members (asked c.args.input) (lengths_of c.args.lent) (sym c.in_ok-check_sizes.ensures) (sym c.in_ok-check_orders.ensures) _ (sym c.in_err-check_members.ensures.members))

pub returns-clause-verdict : goal.returns-clause-verdict
returns-clause-verdict c =
    left_to_needs (asked c.args.input) (lengths_of c.args.lent) (sym c.in_ok-check_sizes.ensures) (sym c.in_ok-check_orders.ensures) _ (sym c.in_ok-check_members.ensures.members) c.check_needs.ensures

pub returns-clause-placed : goal.returns-clause-placed
returns-clause-placed c = all_ok _ (placed_all (members_fine (asked c.args.input) (sym c.in_ok-check_members.ensures.members)) c.in_ok-check_members.ensures.placed)
