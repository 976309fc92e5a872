-- `sweep` goes on where all starts are passed: what is covered up to the next end is added, then the ends there are passed.
use Prim.Native.Nat.{◌-◌}
use lib.ListN.{length}
use Rattle.interval_cover.specs.Cover.{Sweeping}
use Rattle.interval_cover.proofs.Sweeping.{Closing}
use Rattle.interval_cover.proofs.Cover.sweep.Given as goal

abbrev pub invariant-ends : goal.invariant-ends
invariant-ends l = Closing l.self l.at (length l.self.opens.now) l.initial.j l.j

abbrev pub decreases-ends : goal.decreases-ends
decreases-ends l = length l.self.closes.now - l.j

abbrev pub invariant-positions : goal.invariant-positions
invariant-positions l = Sweeping l.self l.fn.lists l.lists l.held l.key (length l.self.opens.now) l.j

abbrev pub decreases-positions : goal.decreases-positions
decreases-positions l = length l.self.closes.now - l.j
