-- `read_all` keeps what was read within the room.
use Rattle.std.proofs.Common.{length, ◌≤◌}
use Rattle.map.proofs.read_all.Given as goal

abbrev pub invariant-loop : goal.invariant-loop
invariant-loop g l = l.count ≤ length l.room
