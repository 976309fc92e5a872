-- `first_missing` walks from hash to hash, and stops at the first whose place has another coordinate or none.
use Rattle.script.proofs.Checking.{Finding}
use Rattle.script.proofs.checks.first_missing.Given as goal

abbrev pub invariant-loop-i : goal.invariant-loop-i
invariant-loop-i l = Finding l.query.hashes.now l.coords.hashes.now l.places l.at l.i
