-- The units of a tag's fields, as the second pass meets them: field by field, in place.
use Rattle.std.specs.Prelude.{ℕ, zero, suc, ◌+◌, ◌*◌, ◌%◌, ◌<◌, ◌≤◌, ◌≡◌, List, [], ◌∷◌, ◌++◌, eqb, length, drop, Float}
use Rattle.base.specs.Pick.{pick}
use Rattle.std.specs.Float.{binary64}
use Rattle.std.specs.Float.Ieee.{of_bits}
use Rattle.rules.specs.Limits.{job_limit, job_query_limit, job_item_limit, job_estimate_limit, settings_tag, minimum_tag, query_tag, items_tag, estimates_tag, minimizer_mode, header_size, size64, settings_size, item_size, interval_size, estimate_size}
use Rattle.rules.specs.Job.{Field, joined_data, mode_of, field_at, length_at, is_cut, units, number_at}
use Rattle.job_fields.specs.Reader.{left_of}
use Rattle.job.specs.declared.units.Units.{Units}

-- the fields from the front of the bytes, to the first that is cut; a field takes three bytes or more, so fuel for each byte never runs out
unfoldable pub fields_of : ℕ → List ℕ → List Field
fields_of zero bytes = []
fields_of (suc fuel) bytes = pick (is_cut bytes) [] (field_at bytes ∷ fields_of fuel (drop (header_size + length_at bytes) bytes))

unfoldable pub fields_in : List ℕ → List Field
fields_in bytes = fields_of (length bytes) bytes

-- the units of n bytes in the fields with a tag
unfoldable pub units_in : ℕ → ℕ → List Field → List (List ℕ)
units_in n tag [] = []
units_in n tag (f ∷ fs) = pick (eqb f.tag tag) (units n f.bytes) [] ++ units_in n tag fs

-- what is left of them: those in the data of the field that was met last, then those of the fields behind it
unfoldable pub rest_of : Units → List (List ℕ)
rest_of u = units u.size u.left.now ++ units_in u.size u.tag (fields_in (left_of u.reader))

-- all units of a tag
unfoldable pub column_of : List ℕ → ℕ → ℕ → List (List ℕ)
column_of job tag n = units_in n tag (fields_in job)

-- the float at an offset in a unit
unfoldable pub float_at : ℕ → List ℕ → Float
float_at o u = of_bits binary64 (number_at o size64 u)

-- P holds of each field
abbrev pub Each : (Field → Type 0) → List Field → Type 0
Each P [] = Unit {0}
Each P (f ∷ fs) = P f × Each P fs

-- the fields with a tag, joined: whole units of n bytes, which are the column; and at most `limit` of them
pub record Joined (job : List ℕ) (tag n limit : ℕ) : Type 0 where
  pub some : 0 < n
  pub whole : length (joined_data tag (fields_in job)) % n ≡ 0
  pub is : column_of job tag n ≡ units n (joined_data tag (fields_in job))
  pub bytes : length (joined_data tag (fields_in job)) ≤ limit * n
  pub few : length (column_of job tag n) ≤ limit

-- the size of an item in a mode
unfoldable pub item_unit : ℕ → ℕ
item_unit mode = pick (eqb mode minimizer_mode) item_size interval_size

-- what the second pass may count on, where the first found nothing wrong
pub record Accepted (job : List ℕ) : Type 0 where
  pub small : length job ≤ job_limit
  pub settings : Joined job settings_tag settings_size 1
  pub minimum : Joined job minimum_tag size64 1
  pub query : Joined job query_tag size64 job_query_limit
  pub items : Joined job items_tag (item_unit (mode_of (fields_in job))) job_item_limit
  pub estimates : Joined job estimates_tag estimate_size job_estimate_limit
