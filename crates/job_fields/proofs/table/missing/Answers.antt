-- `missing` asks whether some row must stand between the tags.
use mathlib.Core.Path.{◌∙◌}
use Rattle.std.proofs.Common.{rules, tests}
use Rattle.std.proofs.lemmas.Iterator.{YieldsList-from_slice}
use Rattle.std.proofs.lemmas.Iterator.Search.{any_from_yields_List}
use Rattle.rules.specs.Job.{field_table}
use Rattle.job_fields.specs.declared.table.Row.{Row}
use Rattle.job_fields.specs.Table.{rule_of, between}
use Rattle.job_fields.proofs.Searching.{table, any_is}
use Rattle.job_fields.proofs.table.missing.Goals as goal

pub returns : goal.returns
unfolding field_table
returns c =
    let test = between c.args.before c.args.tag in
    any_from_yields_List (λ (r : Row). test (rule_of r)) _ _ _ c.any.ensures.ran (YieldsList-from_slice table cc) (λ x b q k. search (rules, tests)) ∙ any_is test table
