-- `coordinates::search::look_up` meets its contract: the loop keeps `Filling`, since the count of keys below a hash is its number. Assumes nothing.
use lib.ListN.{length-append}
use Rattle.coordinates.proofs.Union.{counted, counted_most}
use Prim.Native.Nat.{◌+◌}
use mathlib.Core.Path.{◌≡◌}
use mathlib.Core.List.{◌++◌}
use lib.ListN.{length}
use native.Mathlib.Omega.{arith}
use Rattle.coordinates.proofs.Filling.{filling_step}
use Rattle.coordinates.proofs.search.look_up.Goals as goal

pub overflow_cast-coords : goal.overflow_cast-coords
overflow_cast-coords c = omega (arith, counted_most c.args.among.now _ _ c.count_below.ensures)

pub loop-i-preserved : goal.loop-i-preserved
loop-i-preserved c =
    let a = c.args in
    let xs = a.hashes.query.now ++ a.hashes.items.now in
    let n : length xs ≡ length a.hashes.query.now + length a.hashes.items.now = length-append a.hashes.query.now a.hashes.items.now in
    filling_step c.loop-i.invariant _ (omega arith) (counted a.among.now xs _ _ _ c.count_below.ensures c.at.ensures (omega arith))
