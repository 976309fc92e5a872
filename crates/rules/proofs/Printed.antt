-- The program never says `none` of what it did not read: if its output begins with `none`, reading did not fail, the reader accepted every
-- byte, and the answer of the rules is none. It holds because the three kinds of output differ in their first byte.
use Prim.Native.Nat.{ℕ}
use mathlib.Core.Path.{◌≡◌, refl, ap}
use mathlib.Core.Bool.{Bool, true, false}
use mathlib.Core.List.{List}
use native.Mathlib.Omega.{arith}
use lib.ListN.{take, get_or}
use Rattle.base.specs.Pick.{pick}
use Rattle.base.specs.declared.Stats.{Stats}
use Rattle.std.specs.Prelude.{Option, Some, None}
use Rattle.base.specs.declared.Place.{Place}
use Rattle.base.specs.Verdicts.{number_of}
use Rattle.base.specs.Answers.{SweepAnswer, nothing}
use Rattle.rules.specs.Text.{text}
use Rattle.rules.specs.Job.{Field, Job, Reading, refused_at, whole, job_of, read}
use Rattle.rules.specs.Lines.{line, mapped_line, refused_line, answer_lines, job_answer, lines_of, printed, lines_of_failed, printed_after_failure, said}
use Rattle.std.specs.Prelude.{Ok, Err}

-- the output begins with `none`
abbrev pub BeginsNone : List ℕ → Type 0
BeginsNone lines = take 4 lines ≡ text "none"

-- a refusal begins with another byte
refused_is_other : (n p : ℕ) → BeginsNone (refused_line n p) → ⊥
unfolding refused_line line text
refused_is_other n p e = absurd (let first : ◌≡◌ {A = ℕ} 114 110 = ap (λ bytes. get_or bytes 0 0) e in omega (arith, first))

-- an answer that prints `none` is none
answer_is_none : (j : Job) (a : SweepAnswer) → BeginsNone (answer_lines j a) → (s : Stats) × (a ≡ nothing s)
unfolding answer_lines mapped_line line text
answer_is_none j (Err r) e = absurd (refused_is_other (number_of r.reason) r.place e)
answer_is_none j (Ok o) e = go o.place o.stats e
  where
    go : (place : Option Place) (s : Stats) → BeginsNone (answer_lines j (Ok (record { place = place; stats = s }))) → (u : Stats) × (◌≡◌ {A = SweepAnswer} (Ok (record { place = place; stats = s })) (nothing u))
    go None s e = (s, refl)
    go (Some p) s e = absurd (let first : ◌≡◌ {A = ℕ} 109 110 = ap (λ bytes. get_or bytes 0 0) e in omega (arith, first))

-- what the reader and the rules must have said
abbrev pub ReadAndNone : Reading → Type 0
ReadAndNone r = (seen : List Field) × (r ≡ whole seen) × ((s : Stats) × (job_answer (job_of seen) ≡ nothing s))

-- so with what was read,
lines_none : (r : Reading) → BeginsNone (lines_of r) → ReadAndNone r
unfolding lines_of
lines_none (refused_at why p) e = absurd (refused_is_other (number_of why) p e)
lines_none (whole seen) e = (seen, refl, answer_is_none (job_of seen) (job_answer (job_of seen)) e)

-- and after a failed read `none` is never printed
failed_not_none : (n : ℕ) (r : Reading) → BeginsNone (lines_of_failed n r) → ⊥
unfolding lines_of_failed
failed_not_none n (refused_at why p) e = refused_is_other (number_of why) p e
failed_not_none n (whole seen) e = refused_is_other 12 n e

-- all that the program says
pub none_means_read : (failed : Bool) (job : List ℕ) → BeginsNone (said failed job) → (failed ≡ false) × ReadAndNone (read job)
unfolding said printed printed_after_failure pick
none_means_read true job e = absurd (failed_not_none _ (read job) e)
none_means_read false job e = (refl, lines_none (read job) e)
