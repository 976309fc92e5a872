-- `asked_of` reads the five numbers of 03.
use mathlib.Core.Path.{refl}
use Rattle.job.proofs.Decoding.{asked_first}
use Rattle.job.proofs.fill.asked_of.Goals as goal

pub returns : goal.returns
returns c =
    let asked = asked_first c.args.job.now c.requires.settings c.next_unit.result _ c.unwrap_or-unit.result _ _ c.of-units.ensures.rest c.next_unit.ensures.unit refl c.unwrap_or-unit.ensures in
    cc
