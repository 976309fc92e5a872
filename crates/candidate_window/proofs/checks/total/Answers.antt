-- `total` is the sum of the rules.
use borrow.Author.Rules.{rules}
use mathlib.Core.Path.{◌≡◌, ◌∙◌}
use Rattle.std.specs.Prelude.{sum}
use Rattle.candidate_window.proofs.Checking.{sum_same}
use Rattle.candidate_window.proofs.checks.total.Goals as goal

pub returns : goal.returns
returns c =
    let e : c.sum.result ≡ sum c.args.groups.now = search rules in
    e ∙ sum_same c.args.groups.now
