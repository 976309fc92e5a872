-- `find` answers the first row with the tag.
use mathlib.Core.Path.{ap, ◌∙◌}
use lib.Dec.{eqb}
use Rattle.std.proofs.Common.{rules, tests}
use Rattle.std.proofs.lemmas.Iterator.{YieldsList-from_slice}
use Rattle.std.proofs.lemmas.Iterator.Consumers.{YieldsList-from_copied}
use Rattle.std.proofs.lemmas.Iterator.Search.{find_from_yields_List}
use Rattle.rules.specs.Job.{FieldRow, field_table}
use Rattle.job_fields.specs.declared.table.Row.{Row}
use Rattle.job_fields.specs.Table.{rows_of, rows_with}
use Rattle.job_fields.proofs.Searching.{table, copied_row, first_is}
use Rattle.job_fields.proofs.table.find.Goals as goal

pub returns : goal.returns
unfolding rows_with field_table
returns c =
    let found = find_from_yields_List (λ (r : Row). eqb r.tag c.args.tag) _ _ c.find.result c.find.ensures.ran (YieldsList-from_copied (YieldsList-from_slice table cc)) (λ x b q k. search (rules, tests)) in
    copied_row c.find.result ∙ ap rows_of found ∙ first_is (λ (r : FieldRow). eqb r.tag c.args.tag) table
