-- A search of the table for the first row that passes a test, and whether there is one: the constant table, row by row, is the rules'. Assumes nothing.
use Prim.Native.Nat.{◌+◌, ◌<◌}
use mathlib.Core.Path.{◌≡◌, refl, sym, ap, ◌∙◌}
use mathlib.Core.Bool.{Bool, true, false, ◌||◌, cond}
use mathlib.Core.List.{List, [], ◌∷◌, ◌++◌, map}
use native.Mathlib.Omega.{arith}
use borrow.Author.Tests.{lt-ltb}
use lib.ListN.{take}
use lib.Dec.{ltb}
use Rattle.std.specs.List.{find, list_any}
use Rattle.std.specs.Prelude.{Option, Some, None, option_map}
use Rattle.base.specs.Pick.{pick}
use Rattle.rules.specs.Lists.{filter, count}
use Rattle.rules.specs.Job.{FieldRow, field_table}
use Rattle.job_fields.specs.declared.table.Row.{Row}
use Rattle.job_fields.specs.Table.{rule_of, rows_of}

-- a row of the rules as the code writes it
abbrev written : FieldRow → Row
written r =
    record {
      tag = r.tag;
      unit = r.unit;
      span = r.unit_of_interval;
      one = r.one;
      repeats = r.repeats;
      needed = r.needed;
      limit = r.limit;
    }

-- the table
abbrev pub table : List Row
table = map written field_table

-- a copied row is the row
pub copied_row : (o : Option Row) → rows_of o ≡ rows_of (option_map (λ (r : Row). r) o)
copied_row None = refl
copied_row (Some r) = refl

module _ (test : FieldRow → Bool) where
  -- the first that passes is the front of those that pass
  pub first_is : (rows : List Row) → rows_of (find (λ (r : Row). test (rule_of r)) rows) ≡ take 1 (filter test (map rule_of rows))
  unfolding filter pick
  first_is [] = refl
  first_is (x ∷ rows) = go (test (rule_of x)) (first_is rows)
    where
      go : (b : Bool) → rows_of (find (λ (r : Row). test (rule_of r)) rows) ≡ take 1 (filter test (map rule_of rows))
          → rows_of (cond b (Some x) (find (λ (r : Row). test (rule_of r)) rows)) ≡ take 1 (pick b (rule_of x ∷ []) [] ++ filter test (map rule_of rows))
      go true e = refl
      go false e = e

  -- some pass where their count is above 0
  pub any_is : (rows : List Row) → list_any (λ (r : Row). test (rule_of r)) rows ≡ ltb 0 (count test (map rule_of rows))
  unfolding count pick
  any_is [] = refl
  any_is (x ∷ rows) = go (test (rule_of x)) (any_is rows)
    where
      go : (b : Bool) → list_any (λ (r : Row). test (rule_of r)) rows ≡ ltb 0 (count test (map rule_of rows))
          → b || list_any (λ (r : Row). test (rule_of r)) rows ≡ ltb 0 (pick b 1 0 + count test (map rule_of rows))
      go true e = let some : 0 < 1 + count test (map rule_of rows) = omega arith in sym (lt-ltb 0 (1 + count test (map rule_of rows)) some)
      go false e = let same : count test (map rule_of rows) ≡ 0 + count test (map rule_of rows) = omega arith in e ∙ ap (ltb 0) same
