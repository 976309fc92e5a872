-- `gathered` puts four count words a turn where their bits stand, and those that are left one a turn.
use Prim.Native.Nat.{◌≤◌, ◌-◌}
use Rattle.slide_mapper.specs.State.{Gathered}
use Rattle.slide_mapper.proofs.gathered.Given as goal

abbrev pub invariant-loop-i : goal.invariant-loop-i
invariant-loop-i l = (l.from ≤ l.i) × (l.i ≤ l.end) × Gathered l.counts l.from l.i l.word

abbrev pub decreases-loop-i : goal.decreases-loop-i
decreases-loop-i l = l.end - l.i

abbrev pub invariant-loop-j : goal.invariant-loop-j
invariant-loop-j l = Gathered l.counts l.from l.j l.word
