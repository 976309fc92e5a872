-- `minimum_of` reads the number of 04, if there is one.
use mathlib.Core.Path.{refl, ◌∙◌}
use Rattle.job.proofs.Decoding.{minimum_first}
use Rattle.job.proofs.fill.minimum_of.Goals as goal

pub returns : goal.returns
returns c =
    c.read.ensures ∙
    minimum_first c.args.job.now c.requires.minimum c.next_unit.result _ c.unwrap_or-unit.result _ _ c.of-units.ensures.rest c.next_unit.ensures.unit refl c.unwrap_or-unit.ensures
