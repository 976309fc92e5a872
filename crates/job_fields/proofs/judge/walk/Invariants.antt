-- `walk` keeps that what is left gives the verdict of the whole, and every step is a case of the rules' reading.
use Prim.Native.Nat.{◌-◌}
use mathlib.Core.Path.{◌≡◌}
use lib.ListN.{length}
use Rattle.job_fields.proofs.Walking.{Walking}
use Rattle.job_fields.proofs.judge.walk.Given as goal

abbrev pub invariant-loop-seen : goal.invariant-loop-seen
invariant-loop-seen l = record { job : l.reader.job.now ≡ l.job; walking : Walking l.job l.reader.offset l.seen }

abbrev pub decreases-loop-seen : goal.decreases-loop-seen
decreases-loop-seen l = length l.job - l.reader.offset
