-- `coordinates::search::look_up` meets its contract: the loop keeps `Filling`, since the count of keys below a hash is its number. Assumes nothing.
use mathlib.Core.List.{◌++◌, map}
use Rattle.rules.specs.Score.{number_of}
use Rattle.coordinates.proofs.Filling.{Filling}
use Rattle.coordinates.proofs.search.look_up.Given as goal

abbrev pub invariant-loop-i : goal.invariant-loop-i
invariant-loop-i l = Filling (map (number_of l.among) (l.hashes.query.now ++ l.hashes.items.now)) l.initial.coords l.coords l.i
