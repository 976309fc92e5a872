-- `first_bad_step` finds no bad step where the bounds of all indexes and of all kinds tell it, and else looks for the first.
use mathlib.Core.Path.{◌∙◌}
use native.Mathlib.Omega.{arith}
use Rattle.std.proofs.Common.{rules, ◌≤◌}
use Rattle.std.specs.List.{All}
use Rattle.base.proofs.Lists.{all_index}
use Rattle.script.proofs.Checking.{bad_none, found_bad, found_none}
use Rattle.script.proofs.checks.first_bad_step.Goals as goal

-- the iterator's maximum is no less than each kind: std says it of each index
pub returns-then-kind-le1 : goal.returns-then-kind-le1
returns-then-kind-le1 c =
    let each : All (λ k. k ≤ c.unwrap_or-kind.result) c.args.kinds.now = search rules in
    found_none (bad_none c.args.n _ _ _ _ c.if-most-n.true c.if-kind-le1.true c.requires c.largest-most.ensures (all_index _ _ (λ i l. each i 0 l))) (omega arith)

pub returns : goal.returns
returns c = c.find_bad_step.ensures ∙ found_bad _ _ _ c.requires
