-- `number` lends the fronts.
use Rattle.interval_work.proofs.Numbering.{rooms_numbers}
use Rattle.interval_work.proofs.number.Goals as goal

pub returns : goal.returns
returns c = rooms_numbers c.requires c.coordinates.auto.coords c.coordinates.ensures
