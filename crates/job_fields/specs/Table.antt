-- The crate's table in the rules' terms.
use Rattle.std.specs.Prelude.{ℕ, Bool, Option, Some, None, ◌&&◌, List, [], ◌∷◌, ltb, eqb}
use Rattle.rules.specs.Lists.{filter}
use Rattle.rules.specs.Job.{FieldRow, field_table}
use Rattle.job_fields.specs.declared.table.Row.{Row}

-- a row of the code as the rules write it
abbrev pub rule_of : Row → FieldRow
rule_of r =
    record {
      tag = r.tag;
      unit = r.unit;
      unit_of_interval = r.span;
      one = r.one;
      repeats = r.repeats;
      needed = r.needed;
      limit = r.limit;
    }

-- the table's rows with a tag
unfoldable pub rows_with : ℕ → List FieldRow
rows_with tag = filter (λ (r : FieldRow). eqb r.tag tag) field_table

-- the row that was found, if any
abbrev pub rows_of : Option Row → List FieldRow
rows_of (Some r) = rule_of r ∷ []
rows_of None = []

-- a row must stand between two tags
abbrev pub between : ℕ → ℕ → FieldRow → Bool
between before tag x = x.needed && ltb before x.tag && ltb x.tag tag
