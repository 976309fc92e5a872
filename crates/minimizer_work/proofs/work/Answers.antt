-- `work` goes down the rules' early nones; past them the range is a task.
use mathlib.Core.Path.{sym}
use Prim.Native.Nat.{◌<◌}
use native.Mathlib.Omega.{arith}
use lib.ListN.{length}
use borrow.Author.Tests.{eqb-true, eqb-false}
use Rattle.minimizer_work.specs.Given.{asked}
use Rattle.minimizer_work.specs.Work.{Task}
use Rattle.minimizer_work.proofs.Early.{early_windows, early_query, early_local, late_told}
use Rattle.minimizer_work.proofs.work.Goals as goal

pub returns-in_err-w-clause-told : goal.returns-in_err-w-clause-told
returns-in_err-w-clause-told c = rw c.from_residual.ensures (early_windows (asked c.args.search) c.in_err-w.ensures)

pub returns-then-is_empty-clause-told : goal.returns-then-is_empty-clause-told
returns-then-is_empty-clause-told c = early_query (asked c.args.search) (eqb-true (length c.args.search.query.now) 0 (sym c.if-is_empty.ensures))

pub returns-in_err-bounds-clause-told : goal.returns-in_err-bounds-clause-told
returns-in_err-bounds-clause-told c = rw c.from_residual-in_err-bounds.ensures (early_local (asked c.args.search) c.requires.ready c.in_err-bounds.ensures)

pub returns-clause-told : goal.returns-clause-told
returns-clause-told c =
    let some : 0 < length c.args.search.query.now = omega (arith, eqb-false (length c.args.search.query.now) 0 (sym c.if-is_empty.ensures)) in
    let task : Task (asked c.args.search) c.in_ok-bounds.bounds.from c.in_ok-bounds.bounds.to = record {
      ready = c.requires.ready;
      windows = omega (arith, c.in_ok-w.ensures);
      hash = some;
      bounds = c.in_ok-bounds.ensures;
    } in
    late_told (asked c.args.search) task c.sweep_local.ensures.done
