-- `early` answers none, with nothing counted.
use mathlib.Core.Path.{refl}
use Rattle.rules.specs.Place.{no_stats}
use Rattle.sweep.proofs.early.Goals as goal

pub returns : goal.returns
unfolding no_stats
returns c = refl
