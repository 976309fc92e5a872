-- `coordinates::pack::all_set` meets its contract: what is left of the bits is set only where each flag passed was. Assumes nothing.
use Prim.Native.Nat.{ℕ, ◌<◌}
use lib.ListN.{get_or}
use Rattle.coordinates.proofs.pack.all_set.Given as goal

abbrev pub invariant-loop-flag : goal.invariant-loop-flag
invariant-loop-flag l = 0 < l.bits → (t : ℕ) → t < l.flag-index → 0 < get_or l.flags t 0
