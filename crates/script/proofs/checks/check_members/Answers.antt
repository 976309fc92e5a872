-- `check_members` goes down `script_members`, where the first bad place of each list is the one that the walk found.
use Rattle.base.proofs.Checks.{checks}
use Rattle.script.proofs.Checking.{some_found, none_found}
use Rattle.script.proofs.checks.check_members.Goals as goal

pub returns-in-Some-clause-members : goal.returns-in-Some-clause-members
returns-in-Some-clause-members c = let f = some_found _ _ _ c.in-Some.ensures.missing in rw f.0 (let m = f.1 in search checks depth 40)

pub returns-in-Some-first_bad_step-clause-members : goal.returns-in-Some-first_bad_step-clause-members
returns-in-Some-first_bad_step-clause-members c =
    let f = some_found _ _ _ c.in-Some-first_bad_step.ensures in
    let m = none_found _ _ c.in_default.ensures.missing in
    rw f.0 (let k = f.1 in search checks depth 40)

pub returns-clause-members : goal.returns-clause-members
returns-clause-members c =
    let m = none_found _ _ c.in_default.ensures.missing in
    let k = none_found _ _ c.in_default-first_bad_step.ensures in
    search checks depth 40
