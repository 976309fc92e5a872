-- By what the reader answered, and whether reading failed: the bytes' own refusal, 12 at their count, or the lines of the job. Assumes nothing.
use mathlib.Core.Path.{sym, ap, ◌∙◌}
use mathlib.Core.Bool.{Bool}
use native.Mathlib.Omega.{arith}
use Rattle.rules.specs.Lines.{refused_line, said}
use Rattle.lines.specs.Written.{told, lines_by}
use Rattle.lines.specs.declared.Told.{Told}
use Rattle.run.proofs.Running.{promise_by, said_refused, small, said_cut, sized, job_held, said_job}
use Rattle.run.proofs.run.Goals as goal

pub returns-in-Err : goal.returns-in-Err
returns-in-Err c =
    promise_by _ c.args.bytes.now _ _ _ _ c.say_refused.ensures
    (ap (λ (t : Told). refused_line t.number t.place) c.from.ensures ∙ said_refused _ c.args.bytes.now _ c.in-Err.ensures.answer)

pub overflow_cast-place : goal.overflow_cast-place
overflow_cast-place c = omega (arith, small c.args.bytes.now _ c.in-Ok.ensures.answer)

pub returns-then-failed : goal.returns-then-failed
returns-then-failed c =
    promise_by _ c.args.bytes.now _ _ _ _ c.say_refused-then-failed.ensures
    (ap (λ (t : Told). refused_line t.number t.place) c.from-then-failed.ensures ∙ said_cut c.args.bytes.now _ c.in-Ok.ensures.answer ∙ ap (λ (f : Bool). said f c.args.bytes.now) (sym c.if-failed.true))

pub job-job-requires : goal.job-job-requires
job-job-requires c = job_held c.args.bytes.now _ c.in-Ok.ensures.answer _ _ sized c.in-Ok.ensures.left

pub returns-else-failed : goal.returns-else-failed
returns-else-failed c =
    let j = c.job-job.result in
    promise_by _ c.args.bytes.now _ _ _ _ c.say.ensures
    (ap (lines_by j.identity_bits.now j.upper_bits.now) (c.told-answer.ensures ∙ ap told c.answer_of.ensures) ∙ said_job c.args.bytes.now _ c.in-Ok.ensures.answer _ _ sized c.in-Ok.ensures.left j c.job-job.ensures ∙
    ap (λ (f : Bool). said f c.args.bytes.now) (sym c.if-failed.false))
