-- `gather` sorts what `put_kept` put at the front; where no group is dropped the kept hits are all hits, which `put_sorted` sorts.
use Rattle.candidate_hits.proofs.Gathering.{flat_fronted}
use Rattle.candidate_hits.proofs.Hits.gather.Goals as goal

pub returns-then-none_dropped : goal.returns-then-none_dropped
returns-then-none_dropped c = flat_fronted c.args.self (c.none_dropped.ensures c.if-none_dropped.true) c.put_sorted.ensures
