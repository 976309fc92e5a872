-- `fill` does one unit a turn.
use mathlib.Core.Path.{◌∙◌}
use Rattle.job.proofs.Filling.{filling_step}
use Rattle.job.proofs.units.Units.fill.Goals as goal

pub loop-unit-preserved : goal.loop-unit-preserved
loop-unit-preserved g c = record {
  size = c.in-Some.ensures.size ∙ c.loop-unit.invariant.size;
  filling = filling_step c.loop-unit.invariant.filling c.in-Some.unit.now _ c.in-Some.ensures.unit _ c.read.ensures;
}
