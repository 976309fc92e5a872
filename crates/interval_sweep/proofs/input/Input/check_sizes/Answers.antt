-- `check_sizes` goes down `interval_sizes`: each test that led to a return decides one of its choices.
use Rattle.base.proofs.Checks.{checks}
use Rattle.interval_sweep.proofs.input.Input.check_sizes.Goals.{then-self-gt4096-via-then-self-gt4096, then-self-gt4096-via-else-self-gt4096+then-items-gt61440, then-self-gt4096-via-else-self-gt4096+else-items-gt61440+then-starts-gt61440, then-self-gt4096-via-else-self-gt4096+else-items-gt61440+else-starts-gt61440+then-ends-gt61440}
use Rattle.interval_sweep.proofs.input.Input.check_sizes.Goals.{then-items-starts-via-then-items-starts, then-items-starts-via-else-items-starts+then-items-ends, then-items-starts-via-else-items-starts+else-items-ends+then-self}
use Rattle.interval_sweep.proofs.input.Input.check_sizes.Goals as goal

pub returns-then-self-gt4096 : goal.returns-then-self-gt4096
returns-then-self-gt4096 c =
    elim c.then-self-gt4096.branch [
      | then-self-gt4096-via-then-self-gt4096 w ↦ search checks depth 40
      | then-self-gt4096-via-else-self-gt4096+then-items-gt61440 w ↦ search checks depth 40
      | then-self-gt4096-via-else-self-gt4096+else-items-gt61440+then-starts-gt61440 w ↦ search checks depth 40
      | then-self-gt4096-via-else-self-gt4096+else-items-gt61440+else-starts-gt61440+then-ends-gt61440 w ↦ search checks depth 40
    ]

pub returns-then-self-eq0 : goal.returns-then-self-eq0
returns-then-self-eq0 c = search checks depth 40

pub returns-then-items-starts : goal.returns-then-items-starts
returns-then-items-starts c =
    elim c.then-items-starts.branch [
      | then-items-starts-via-then-items-starts w ↦ search checks depth 40
      | then-items-starts-via-else-items-starts+then-items-ends w ↦ search checks depth 40
      | then-items-starts-via-else-items-starts+else-items-ends+then-self w ↦ search checks depth 40
    ]

pub returns : goal.returns
returns c = search checks depth 40
