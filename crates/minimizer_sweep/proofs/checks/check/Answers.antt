-- `check` answers the first refusal of the chain of checks, and what the fine sizes tell lets the others be asked.
use mathlib.Core.Path.{sym}
use native.Mathlib.Omega.{arith}
use lib.ListN.{length}
use Rattle.std.proofs.lemmas.Result.{err_from_is_err_and}
use Rattle.minimizer_sweep.proofs.Checking.{sizes_fine, refused_sizes, refused_orders, refused_table, left_to_needs}
use Rattle.minimizer_sweep.proofs.checks.check.Goals as goal

pub returns-in_err-check_sizes : goal.returns-in_err-check_sizes
returns-in_err-check_sizes c =
    let a = c.args in
    let p = err_from_is_err_and c.from_residual.result c.from_residual.ensures.1 in
    rw (p.1, p.2) (refused_sizes c.args.query.now c.args.hashes.now c.args.starts.now a.identities a.uppers a.kmer a.window a.lent.keys a.lent.counts a.lent.coords a.lent.words a.lent.summary _ (sym c.in_err-check_sizes.ensures))

pub check_orders-requires : goal.check_orders-requires
check_orders-requires c =
    let s = sizes_fine (length c.args.query.now) (length c.args.hashes.now) (length c.args.starts.now) c.args.identities c.args.uppers c.args.kmer c.args.window (sym c.in_ok-check_sizes.ensures) in
    (omega (arith, s.0), omega (arith, s.2))

pub returns-in_err-check_orders : goal.returns-in_err-check_orders
returns-in_err-check_orders c =
    let a = c.args in
    let p = err_from_is_err_and c.from_residual-in_err-check_orders.result c.from_residual-in_err-check_orders.ensures.1 in
    rw (p.1, p.2) (refused_orders c.args.query.now c.args.hashes.now c.args.starts.now a.identities a.uppers a.kmer a.window a.lent.keys a.lent.counts a.lent.coords a.lent.words a.lent.summary (sym c.in_ok-check_sizes.ensures) _ (sym c.in_err-check_orders.ensures))

pub check_table-requires : goal.check_table-requires
check_table-requires c =
    let s = sizes_fine (length c.args.query.now) (length c.args.hashes.now) (length c.args.starts.now) c.args.identities c.args.uppers c.args.kmer c.args.window (sym c.in_ok-check_sizes.ensures) in
    omega (arith, s.0)

pub returns-in_err-check_table : goal.returns-in_err-check_table
returns-in_err-check_table c =
    let a = c.args in
    let p = err_from_is_err_and c.from_residual-in_err-check_table.result c.from_residual-in_err-check_table.ensures.1 in
    rw (p.1, p.2) (refused_table c.args.query.now c.args.hashes.now c.args.starts.now a.identities a.uppers a.kmer a.window a.lent.keys a.lent.counts a.lent.coords a.lent.words a.lent.summary (sym c.in_ok-check_sizes.ensures) (sym c.in_ok-check_orders.ensures) _ (sym c.in_err-check_table.ensures))

pub returns : goal.returns
returns c =
    let a = c.args in
    left_to_needs c.args.query.now c.args.hashes.now c.args.starts.now a.identities a.uppers a.kmer a.window a.lent.keys a.lent.counts a.lent.coords a.lent.words a.lent.summary (sym c.in_ok-check_sizes.ensures) (sym c.in_ok-check_orders.ensures) _ (sym c.in_ok-check_table.ensures) c.check_needs.ensures
