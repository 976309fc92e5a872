-- `coordinates::search::gather` meets its contract: the loop keeps `Filling`. Assumes nothing.
use Prim.Native.Nat.{◌+◌}
use mathlib.Core.Path.{◌≡◌}
use mathlib.Core.List.{◌++◌}
use lib.ListN.{length, length-append}
use native.Mathlib.Omega.{arith}
use Rattle.coordinates.proofs.Filling.{filling_step}
use Rattle.coordinates.proofs.search.gather.Goals as goal

pub loop-i-preserved : goal.loop-i-preserved
loop-i-preserved c =
    let h = c.args.hashes in
    let n : length (h.query.now ++ h.items.now) ≡ length h.query.now + length h.items.now = length-append h.query.now h.items.now in
    filling_step c.loop-i.invariant _ (omega arith) c.at.ensures
