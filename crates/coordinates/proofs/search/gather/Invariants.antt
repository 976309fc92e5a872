-- `coordinates::search::gather` meets its contract: the loop keeps `Filling`. Assumes nothing.
use mathlib.Core.List.{◌++◌}
use Rattle.coordinates.proofs.Filling.{Filling}
use Rattle.coordinates.proofs.search.gather.Given as goal

abbrev pub invariant-loop-i : goal.invariant-loop-i
invariant-loop-i l = Filling (l.hashes.query.now ++ l.hashes.items.now) l.initial.keys l.keys l.i
