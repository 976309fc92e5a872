-- `coordinates::pack::flag` meets its contract: the loop keeps `Flagged`. Assumes nothing.
use Rattle.coordinates.specs.Packed.{Flagged}
use Rattle.coordinates.proofs.pack.flag.Given as goal

abbrev pub invariant-loop-key : goal.invariant-loop-key
invariant-loop-key l = Flagged l.keys l.flags l.key-index
