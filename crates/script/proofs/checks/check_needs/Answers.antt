-- `check_needs` goes down `script_needs`: each test that led to a return decides one of its choices.
use Rattle.base.proofs.Checks.{checks}
use Rattle.script.proofs.checks.check_needs.Goals.{then-lent-needed-via-then-lent-needed, then-lent-needed-via-else-lent-needed+then-lent-needed-2, then-lent-needed-via-else-lent-needed+else-lent-needed-2+then-lent-needed-3, then-lent-needed-via-else-lent-needed+else-lent-needed-2+else-lent-needed-3+then-lent-needed-4, then-lent-needed-via-else-lent-needed+else-lent-needed-2+else-lent-needed-3+else-lent-needed-4+then-lent-needed-5}
use Rattle.script.proofs.checks.check_needs.Goals as goal

pub returns-then-lent-needed : goal.returns-then-lent-needed
returns-then-lent-needed c =
    elim c.then-lent-needed.branch [
      | then-lent-needed-via-then-lent-needed w ↦ search checks depth 40
      | then-lent-needed-via-else-lent-needed+then-lent-needed-2 w ↦ search checks depth 40
      | then-lent-needed-via-else-lent-needed+else-lent-needed-2+then-lent-needed-3 w ↦ search checks depth 40
      | then-lent-needed-via-else-lent-needed+else-lent-needed-2+else-lent-needed-3+then-lent-needed-4 w ↦ search checks depth 40
      | then-lent-needed-via-else-lent-needed+else-lent-needed-2+else-lent-needed-3+else-lent-needed-4+then-lent-needed-5 w ↦ search checks depth 40
    ]

pub returns : goal.returns
returns c = search checks depth 40
