-- A job's mode, by the byte of 02 that the rules keep.
use Rattle.std.specs.Prelude.{ℕ, Result, Ok, Err, ltb, eqb}
use Rattle.base.specs.Pick.{pick}
use Rattle.base.specs.declared.Reason.{Reason}
use Rattle.base.specs.declared.Reason.TheVariants.{FieldMalformed}
use Rattle.rules.specs.Limits.{minimizer_mode, interval_mode}
use Rattle.job_fields.specs.declared.mode.Mode.{Mode}
use Rattle.job_fields.specs.declared.mode.Mode.TheVariants.{Minimizer, Interval}

-- the byte of a mode
abbrev pub byte_of : Mode → ℕ
byte_of Minimizer = minimizer_mode
byte_of Interval = interval_mode

-- the mode of a byte: minimizer at 0, else interval
unfoldable pub mode_at : ℕ → Mode
mode_at byte = pick (eqb byte minimizer_mode) Minimizer Interval

-- a byte above 1 is none
unfoldable pub mode_from : ℕ → Result Mode Reason
mode_from byte = pick (ltb interval_mode byte) (Err FieldMalformed) (Ok (mode_at byte))
