-- `pass_starts` goes from position to position: what is covered up to one is added, then its ends and its starts are passed, the first of each as a sum.
use Prim.Native.Nat.{◌+◌, ◌-◌}
use lib.ListN.{length}
use Rattle.interval_cover.specs.Cover.{Sweeping}
use Rattle.interval_cover.proofs.Sweeping.{Closing, Opening}
use Rattle.interval_cover.proofs.Cover.pass_starts.Given as goal

abbrev pub invariant-ends : goal.invariant-ends
invariant-ends l = Closing l.self l.at l.i l.initial.j l.j

abbrev pub decreases-ends : goal.decreases-ends
decreases-ends l = length l.self.closes.now - l.j

abbrev pub invariant-starts : goal.invariant-starts
invariant-starts l = Opening l.self l.at l.j l.initial.i l.i

abbrev pub decreases-starts : goal.decreases-starts
decreases-starts l = length l.self.opens.now - l.i

abbrev pub invariant-positions : goal.invariant-positions
invariant-positions l = Sweeping l.self l.initial.lists l.lists l.held l.key l.i l.j

abbrev pub decreases-positions : goal.decreases-positions
decreases-positions l = length l.self.opens.now - l.i + (length l.self.closes.now - l.j)
