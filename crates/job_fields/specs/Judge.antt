-- What the parts of the first pass answer, in the rules' terms: what is seen holds of the fields before only what the next can ask.
use Rattle.std.specs.Prelude.{ℕ, ◌+◌, List, Option, Some, None, Result, Ok, Err, eqb, get_or, length}
use Rattle.base.specs.Pick.{pick}
use Rattle.base.specs.declared.Reason.{Reason}
use Rattle.base.specs.declared.Refusal.{Refusal}
use Rattle.base.specs.declared.Reason.TheVariants.{JobCut, FieldMalformed}
use Rattle.rules.specs.Limits.{mode_tag}
use Rattle.rules.specs.Job.{FieldRow, Field, mode_of, wrong_value, fault_by, field_at, is_cut, Reading, refused_at, whole}
use Rattle.job_fields.specs.Mode.{byte_of, mode_at}
use Rattle.job_fields.specs.Table.{rows_with}
use Rattle.job_fields.specs.declared.mode.Mode.{Mode}
use Rattle.job_fields.specs.declared.judge.Seen.{Seen}

-- the first byte of a field's data, 0 where there is none
abbrev pub first_of : Field → ℕ
first_of f = get_or f.bytes 0 0

-- the bytes of the earlier fields with a tag
unfoldable pub earlier_of : Seen → ℕ → ℕ
earlier_of s tag = pick (eqb tag s.before) s.joined 0

-- the mode after a field
unfoldable pub mode_then : Seen → Field → Mode
mode_then s f = pick (eqb f.tag mode_tag) (mode_at (first_of f)) s.mode

-- unless its value is wrong
unfoldable pub mode_after : Seen → Field → Result Mode Reason
mode_after s f = pick (wrong_value f.tag (first_of f)) (Err FieldMalformed) (Ok (mode_then s f))

-- what is seen with a field in which nothing is wrong
unfoldable pub seen_with : Seen → Field → Seen
seen_with s f = record { before = f.tag; mode = mode_then s f; joined = earlier_of s f.tag + length f.bytes }

-- what is wrong with a field, if anything, by the table's rows with its tag
unfoldable pub fault_in : List FieldRow → Seen → Field → Option Reason
fault_in rows s f = fault_by rows s.before (byte_of s.mode) (earlier_of s f.tag) f.tag (first_of f) (length f.bytes)

abbrev pub unless : {A : Type 0} → Option Reason → A → Result A Reason
unless (Some why) x = Err why
unless None x = Ok x

-- what is seen after a whole field, or what is wrong with it
unfoldable pub seen_after : Seen → Field → Result Seen Reason
seen_after s f = unless (fault_in (rows_with f.tag) s f) (seen_with s f)

-- the same of the field at the front of the bytes
unfoldable pub step_of : Seen → List ℕ → Result Seen Reason
step_of s bytes = pick (is_cut bytes) (Err JobCut) (seen_after s (field_at bytes))

-- a refusal at an offset
abbrev pub placed : ℕ → Result Seen Reason → Result Seen Refusal
placed at (Ok s) = Ok s
placed at (Err why) = Err (record { reason = why; place = at })

-- the verdict of a reading: the refusal, or the mode of a file that is whole
unfoldable pub verdict_of : Reading → Result Mode Refusal
verdict_of (refused_at why place) = Err (record { reason = why; place = place })
verdict_of (whole seen) = Ok (mode_at (mode_of seen))
