-- `put_keys` passes the hits one by one; an interval has its two keys put.
use Rattle.interval_hits.proofs.Gathering.{Putting}
use Rattle.interval_hits.proofs.put_keys.Given as goal

abbrev pub invariant-loop-k : goal.invariant-loop-k
invariant-loop-k l = Putting l.contigs l.starts l.ends l.initial.opens l.initial.closes l.n l.opens l.closes l.at l.k
