-- `step` is one case of the rules' reading.
use mathlib.Core.Path.{◌∙◌}
use native.Mathlib.Omega.{arith}
use lib.ListN.{length-drop}
use Rattle.job_fields.specs.Reader.{field_of, left_of}
use Rattle.job_fields.proofs.Walking.{step_cut, step_field, field_size}
use Rattle.job_fields.proofs.judge.step.Goals as goal

pub returns-in_default-clause-step : goal.returns-in_default-clause-step
returns-in_default-clause-step c = step_cut c.args.seen (left_of c.args.reader.now) c.in_default.ensures.field

pub after-requires : goal.after-requires
after-requires c =
    let r = c.args.reader.now in
    omega (arith, field_size c.args.seen (left_of r) (field_of c.in-Some.field) c.in-Some.ensures.field, length-drop r.offset r.job.now, c.requires.long, c.requires.joined)

pub returns-clause-step : goal.returns-clause-step
returns-clause-step c = c.after.ensures ∙ step_field c.args.seen (left_of c.args.reader.now) (field_of c.in-Some.field) c.in-Some.ensures.field
