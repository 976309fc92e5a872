-- `coordinates::pack::walk` meets its contract: the loop keeps `Walk`. Assumes nothing.
use Rattle.coordinates.proofs.Walk.{Walk}
use Rattle.coordinates.proofs.pack.walk.Given as goal

abbrev pub invariant-loop-key : goal.invariant-loop-key
invariant-loop-key l = Walk l.hashes.query.now l.hashes.items.now l.keys l.coords l.prev l.c l.key-index
