-- What is wrong with one field, test by test: each return of the code is one case of the rules' chain. Assumes nothing.
use Prim.Native.Nat.{ℕ, ◌+◌, ◌*◌}
use mathlib.Core.Path.{◌≡◌, refl, sym, ap, ◌∙◌}
use mathlib.Core.Bool.{Bool, true, false, not}
use mathlib.Core.List.{List, [], ◌∷◌}
use native.Mathlib.Omega.{arith}
use lib.ListN.{length, take}
use lib.Dec.{ltb}
use Rattle.std.specs.Prelude.{Option, Some, None, Result, Ok, Err}
use Rattle.base.specs.Pick.{pick}
use Rattle.base.specs.declared.Reason.{Reason}
use Rattle.base.specs.declared.Reason.TheVariants.{UnknownTag, FieldMisplaced, FieldMalformed, FieldLimit}
use Rattle.rules.specs.Job.{FieldRow, Field, unit_of, misplaced, fits, wrong_value, too_many, fault_by}
use Rattle.job_fields.specs.declared.mode.Mode.{Mode}
use Rattle.job_fields.specs.declared.table.Row.{Row}
use Rattle.job_fields.specs.declared.judge.Seen.{Seen}
use Rattle.job_fields.specs.Mode.{byte_of}
use Rattle.job_fields.specs.Table.{rule_of, rows_with}
use Rattle.job_fields.specs.Judge.{earlier_of, mode_then, mode_after, seen_with, fault_in, unless, seen_after}

-- ---- what is wrong with a field, by the row that was found

-- the first row with the tag decides
fault_first : (rows : List FieldRow) (s : Seen) (f : Field) → fault_in (take 1 rows) s f ≡ fault_in rows s f
unfolding fault_in fault_by
fault_first [] s f = refl
fault_first (r ∷ rows) s f = refl

seen_by : (rows : List FieldRow) (s : Seen) (f : Field) → rows ≡ take 1 (rows_with f.tag) → unless (fault_in rows s f) (seen_with s f) ≡ seen_after s f
unfolding seen_after
seen_by rows s f e = ap (λ (why : Option Reason). unless why (seen_with s f)) (ap (λ (rs : List FieldRow). fault_in rs s f) e ∙ fault_first (rows_with f.tag) s f)

is_wrong : (b : Bool) (why : Reason) (m : Mode) → Err why ≡ pick b (Err FieldMalformed) (Ok m) → (b ≡ true) × (why ≡ FieldMalformed)
unfolding pick
is_wrong true why m e = (refl, cc)
is_wrong false why m e = absurd (let z : ◌≡◌ {A = ℕ} 0 1 = cc in omega arith)

is_right : (b : Bool) (mode m : Mode) → Ok mode ≡ pick b (Err FieldMalformed) (Ok m) → (b ≡ false) × (mode ≡ m)
unfolding pick
is_right true mode m e = absurd (let z : ◌≡◌ {A = ℕ} 0 1 = cc in omega arith)
is_right false mode m e = (refl, cc)

pub unknown : (s : Seen) (f : Field) → [] ≡ take 1 (rows_with f.tag) → Err UnknownTag ≡ seen_after s f
unfolding fault_in fault_by
unknown s f e = seen_by [] s f e

module _ (s : Seen) (f : Field) (r : Row) (row : rule_of r ∷ [] ≡ take 1 (rows_with f.tag)) where
  by_row : unless (fault_in (rule_of r ∷ []) s f) (seen_with s f) ≡ seen_after s f
  by_row = seen_by (rule_of r ∷ []) s f row

  pub out_of_place : true ≡ misplaced s.before (rule_of r) → Err FieldMisplaced ≡ seen_after s f
  unfolding fault_in fault_by pick
  out_of_place e = rw (sym e) at by_row

  module _ (placed : false ≡ misplaced s.before (rule_of r)) where
    pub malformed : false ≡ fits (byte_of s.mode) (rule_of r) (length f.bytes) → Err FieldMalformed ≡ seen_after s f
    unfolding fault_in fault_by pick
    malformed e = rw (sym placed, sym e) at by_row

    module _ (fitting : true ≡ fits (byte_of s.mode) (rule_of r) (length f.bytes)) where
      pub wrong : (why : Reason) → Err why ≡ mode_after s f → Err why ≡ seen_after s f
      unfolding fault_in fault_by mode_after pick
      wrong why e = let w = is_wrong _ _ _ e in ap Err w.1 ∙ (rw (sym placed, sym fitting, w.0) at by_row)

      module _ (mode : Mode) (right : Ok mode ≡ mode_after s f) (joined : ℕ) (is : joined ≡ earlier_of s f.tag + length f.bytes) where
        passes : (b : Bool) → b ≡ ltb ((rule_of r).limit * unit_of (byte_of s.mode) (rule_of r)) joined → too_many (byte_of s.mode) (rule_of r) (earlier_of s f.tag) (length f.bytes) ≡ b
        unfolding too_many
        passes b e = sym (e ∙ ap (ltb ((rule_of r).limit * unit_of (byte_of s.mode) (rule_of r))) is)

        pub passed_limit : true ≡ ltb ((rule_of r).limit * unit_of (byte_of s.mode) (rule_of r)) joined → Err FieldLimit ≡ seen_after s f
        unfolding fault_in fault_by mode_after pick
        passed_limit e = let w = is_right _ _ _ right in rw (sym placed, sym fitting, w.0, passes true e) at by_row

        -- what is seen then
        abbrev passing : Mode → ℕ → Result Seen Reason
        passing m j = Ok (record { before = f.tag; mode = m; joined = j })

        pub nothing_wrong : false ≡ ltb ((rule_of r).limit * unit_of (byte_of s.mode) (rule_of r)) joined → Ok (record { before = f.tag; mode = mode; joined = joined }) ≡ seen_after s f
        unfolding fault_in fault_by mode_after seen_with pick
        nothing_wrong e =
            let w = is_right _ _ _ right in
            ap (λ (m : Mode). passing m joined) w.1 ∙ ap (passing (mode_then s f)) is ∙ (rw (sym placed, sym fitting, w.0, passes false e) at by_row)

-- nothing is wrong: the table has a row of the tag, and the field passed each test

pub record Passed (rows : List FieldRow) (before mode earlier tag first n : ℕ) : Type 0 where
  pub row : FieldRow
  pub others : List FieldRow
  pub found : rows ≡ row ∷ others
  pub placed : misplaced before row ≡ false
  pub fitting : fits mode row n ≡ true
  pub right : wrong_value tag first ≡ false
  pub within : too_many mode row earlier n ≡ false

abbrev Nothing : Option Reason → Type 0
Nothing why = why ≡ None

other : (why : Reason) → Some why ≡ None → ⊥
other why e = absurd (let z : ◌≡◌ {A = ℕ} 0 1 = cc in omega arith)

pub passed : (rows : List FieldRow) (before mode earlier tag first n : ℕ) → fault_by rows before mode earlier tag first n ≡ None → Passed rows before mode earlier tag first n
unfolding fault_by pick
passed [] before mode earlier tag first n e = absurd (other UnknownTag e)
passed (r ∷ rs) before mode earlier tag first n e = by_place (misplaced before r) refl e
  where
    by_limit : (b : Bool) → too_many mode r earlier n ≡ b → misplaced before r ≡ false → fits mode r n ≡ true → wrong_value tag first ≡ false → Nothing (pick b (Some FieldLimit) None)
        → Passed (r ∷ rs) before mode earlier tag first n
    by_limit true m p f v e = absurd (other FieldLimit e)
    by_limit false m p f v e = record { row = r; others = rs; found = refl; placed = p; fitting = f; right = v; within = m }

    by_value : (b : Bool) → wrong_value tag first ≡ b → misplaced before r ≡ false → fits mode r n ≡ true → Nothing (pick b (Some FieldMalformed) (pick (too_many mode r earlier n) (Some FieldLimit) None))
        → Passed (r ∷ rs) before mode earlier tag first n
    by_value true v p f e = absurd (other FieldMalformed e)
    by_value false v p f e = by_limit (too_many mode r earlier n) refl p f v e

    by_length : (b : Bool) → fits mode r n ≡ b → misplaced before r ≡ false → Nothing (pick (not b) (Some FieldMalformed) (pick (wrong_value tag first) (Some FieldMalformed) (pick (too_many mode r earlier n) (Some FieldLimit) None)))
        → Passed (r ∷ rs) before mode earlier tag first n
    by_length true f p e = by_value (wrong_value tag first) refl p f e
    by_length false f p e = absurd (other FieldMalformed e)

    by_place : (b : Bool) → misplaced before r ≡ b
        → Nothing (pick b (Some FieldMisplaced) (pick (not (fits mode r n)) (Some FieldMalformed) (pick (wrong_value tag first) (Some FieldMalformed) (pick (too_many mode r earlier n) (Some FieldLimit) None))))
        → Passed (r ∷ rs) before mode earlier tag first n
    by_place true p e = absurd (other FieldMisplaced e)
    by_place false p e = by_length (fits mode r n) refl p e
