-- What the reader reads, in the rules' terms.
use Rattle.std.specs.Prelude.{ℕ, ◌+◌, List, Option, Some, None, drop}
use Rattle.base.specs.Pick.{pick}
use Rattle.rules.specs.Limits.{header_size}
use Rattle.rules.specs.Job as rules
use Rattle.rules.specs.Job.{length_at, field_at, is_cut}
use Rattle.job_fields.specs.declared.reader.Field.{Field}
use Rattle.job_fields.specs.declared.reader.Reader.{Reader}

-- a field of the code as the rules write it
abbrev pub field_of : Field → rules.Field
field_of f = record { tag = f.tag; bytes = f.bytes.now }

-- the bytes from the reader's offset on
abbrev pub left_of : Reader → List ℕ
left_of r = drop r.offset r.job.now

-- the field at the front of the bytes, if it is whole
unfoldable pub next_field : List ℕ → Option rules.Field
next_field bytes = pick (is_cut bytes) None (Some (field_at bytes))

-- how many bytes it takes
unfoldable pub taken_of : List ℕ → ℕ
taken_of bytes = pick (is_cut bytes) 0 (header_size + length_at bytes)
