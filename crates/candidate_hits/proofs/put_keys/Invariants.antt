-- `put_keys` puts the keys one after the other.
use Rattle.candidate_hits.proofs.Gathering.{Putting}
use Rattle.candidate_hits.proofs.put_keys.Given as goal

abbrev pub invariant-loop-k : goal.invariant-loop-k
invariant-loop-k l = Putting l.contigs l.positions l.initial.keys l.keys l.k
