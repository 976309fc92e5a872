-- `sweep_local` lends the part of each list that the local items need, which is clear as the whole is; what is answered of the two parts of hashes and positions is what
-- the rules answer of the range.
use mathlib.Core.Path.{◌≡◌}
use Prim.Native.Nat.{ℕ, ◌+◌, ◌-◌}
use native.Mathlib.Omega.{arith}
use lib.ListN.{length}
use Rattle.minimizer_work.proofs.Working.{cut, hashes_long, task_inside, task_fits, task_few, task_parallel, task_asc, task_near, task_done, clear_part, clear_back}
use Rattle.minimizer_work.proofs.sweep_local.Goals as goal

pub overflow_add-search : goal.overflow_add-search
overflow_add-search c = omega (arith, task_few c.requires.task, task_inside c.requires.task)

pub offset_bounds-search-from : goal.offset_bounds-search-from
offset_bounds-search-from c = omega (arith, task_few c.requires.task, task_inside c.requires.task, c.requires.task.bounds.item)

pub slice_bounds-run_and_clear-end : goal.slice_bounds-run_and_clear-end
slice_bounds-run_and_clear-end c = task_inside c.requires.task

pub invariant_of-run_and_clear : goal.invariant_of-run_and_clear
invariant_of-run_and_clear c = record { parallel = task_parallel c.requires.task; asc = task_asc c.requires.task; near = task_near c.requires.task c.args.search.items.near }

pub run_and_clear-requires-clause-clear : goal.run_and_clear-requires-clause-clear
run_and_clear-requires-clause-clear c =
    let e = c.needed-needed.ensures in
    let m : ℕ = length c.args.search.query.now + (c.args.bounds.to - c.args.bounds.from) in
    let same : length c.args.search.query.now + length (cut c.args.bounds.from c.args.bounds.to c.args.search.items.hashes.now) ≡ m = omega (arith, hashes_long c.requires.task) in
    rw (same, e.keys, e.counts, e.coords, e.words, e.summary) (clear_part c.requires.zero m (task_fits c.requires.task))

pub returns-clause-done : goal.returns-clause-done
returns-clause-done c = task_done c.requires.task c.requires.windows.0 c.run_and_clear.ensures.answers

pub returns-clause-zero : goal.returns-clause-zero
returns-clause-zero c =
    let e = c.needed-needed.ensures in
    let m : ℕ = length c.args.search.query.now + (c.args.bounds.to - c.args.bounds.from) in
    let same : length c.args.search.query.now + length (cut c.args.bounds.from c.args.bounds.to c.args.search.items.hashes.now) ≡ m = omega (arith, hashes_long c.requires.task) in
    rw (e.keys, e.counts, e.coords, e.words, e.summary) (clear_back c.requires.zero m (task_fits c.requires.task) (rw same at c.run_and_clear.ensures.clear))
