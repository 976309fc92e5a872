-- `check_sizes` goes down `script_sizes`: each test that led to a return decides one of its choices.
use Rattle.base.proofs.Checks.{checks}
use Rattle.script.proofs.checks.check_sizes.Goals.{then-query-gt4096-via-then-query-gt4096, then-query-gt4096-via-else-query-gt4096+then-coords-gt65536, then-query-gt4096-via-else-query-gt4096+else-coords-gt65536+then-coords-eq0, then-query-gt4096-via-else-query-gt4096+else-coords-gt65536+else-coords-eq0+then-indexes-gt65536, then-query-gt4096-via-else-query-gt4096+else-coords-gt65536+else-coords-eq0+else-indexes-gt65536+then-kinds-gt65536}
use Rattle.script.proofs.checks.check_sizes.Goals as goal

pub returns-then-query-gt4096 : goal.returns-then-query-gt4096
returns-then-query-gt4096 c =
    elim c.then-query-gt4096.branch [
      | then-query-gt4096-via-then-query-gt4096 w ↦ search checks depth 40
      | then-query-gt4096-via-else-query-gt4096+then-coords-gt65536 w ↦ search checks depth 40
      | then-query-gt4096-via-else-query-gt4096+else-coords-gt65536+then-coords-eq0 w ↦ search checks depth 40
      | then-query-gt4096-via-else-query-gt4096+else-coords-gt65536+else-coords-eq0+then-indexes-gt65536 w ↦ search checks depth 40
      | then-query-gt4096-via-else-query-gt4096+else-coords-gt65536+else-coords-eq0+else-indexes-gt65536+then-kinds-gt65536 w ↦ search checks depth 40
    ]

pub returns-then-indexes-kinds : goal.returns-then-indexes-kinds
returns-then-indexes-kinds c = search checks depth 40

pub returns : goal.returns
returns c = search checks depth 40
