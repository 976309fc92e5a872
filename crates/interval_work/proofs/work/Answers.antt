-- `work` sweeps over the part between the bounds, and clears what it was lent.
use Rattle.interval_work.proofs.Bounding.{bounds_up, cut_part}
use Rattle.interval_work.proofs.work.Goals as goal

pub part-part-requires : goal.part-part-requires
part-part-requires c = let up = bounds_up c.requires.ready in record { order = up.0; inside = up.1 }

pub returns-clause-found : goal.returns-clause-found
returns-clause-found c = λ t o. let p = c.part-part.ensures in c.sweep_part-swept.ensures.found t (cut_part c.requires.ready t o c.part-part.result p.hashes p.starts p.ends)
