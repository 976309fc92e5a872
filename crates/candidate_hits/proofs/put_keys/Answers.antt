-- `put_keys` puts the keys one after the other.
use native.Mathlib.Omega.{arith}
use Rattle.candidate_hits.proofs.Gathering.{putting_step, putting_end}
use Rattle.candidate_hits.proofs.put_keys.Goals as goal

pub loop-k-preserved : goal.loop-k-preserved
loop-k-preserved c = putting_step c.requires.parallel c.requires.exact c.loop-k.invariant _ (omega arith) c.key_of.ensures

pub returns : goal.returns
returns c = putting_end c.requires.parallel c.requires.exact c.loop-k.invariant (omega arith)
