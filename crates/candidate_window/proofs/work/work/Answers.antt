-- `work` lists the runs of the keys that it gathered, which are those of the rules, and leaves the keys clear.
use Rattle.candidate_window.proofs.Whole.{work_asc, work_long, work_done}
use Rattle.candidate_window.proofs.work.work.Goals as goal

pub invariant_of-runs : goal.invariant_of-runs
invariant_of-runs c =
    let g = c.gather-n in
    record { asc = work_asc c.args.hits g.ensures g.auto.keys c.requires.exact; few = work_long c.args.hits g.ensures g.auto.keys c.requires.exact }

pub returns-clause-worked : goal.returns-clause-worked
returns-clause-worked c =
    work_done c.args.hits c.gather-n.ensures c.gather-n.auto.keys c.requires.exact c.args.minimum c.args.fragment c.list-count.result (rw c.from.ensures at c.list-count.ensures.listed)
