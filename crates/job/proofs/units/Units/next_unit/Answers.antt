-- `next_unit` takes the first of what is left, or finds that nothing is.
use mathlib.Core.Path.{sym, ◌∙◌}
use Rattle.job_fields.specs.Reader.{field_of, left_of}
use Rattle.job.specs.Units.{rest_of}
use Rattle.job.proofs.Finding.{units_taken, none_left, left_here, left_past, field_on}
use Rattle.job.proofs.units.Units.next_unit.Goals as goal

pub returns-in_err-field-clause-unit : goal.returns-in_err-field-clause-unit
unfolding rest_of
returns-in_err-field-clause-unit c =
    let s = c.loop-self.self in
    rw c.from_residual.ensures (sym c.loop-self.invariant.rest ∙ none_left s.size s.tag s.some s.left.now s.reader.job.now s.reader.job.now s.reader.offset s.reader.offset c.loop-self-test.true c.in_err-field.ensures.field)

pub loop-self-smaller-then-field-self : goal.loop-self-smaller-then-field-self
loop-self-smaller-then-field-self c =
    let s = c.loop-self.self in
    let f = c.in_ok-field in
    field_on s.size s.tag s.some s.left.now s.reader.job.now _ s.reader.offset _ c.loop-self-test.true (field_of f.field) f.ensures.field f.ensures.job f.ensures.offset

pub loop-self-preserved-then-field-self : goal.loop-self-preserved-then-field-self
unfolding rest_of
loop-self-preserved-then-field-self c =
    let s = c.loop-self.self in
    let f = c.in_ok-field in
    record {
      rest = left_here s.size s.tag s.some s.left.now s.reader.job.now _ s.reader.offset _ c.loop-self-test.true (field_of f.field) f.ensures.field f.ensures.job f.ensures.offset c.if-field-self.true ∙ c.loop-self.invariant.rest;
      size = c.loop-self.invariant.size;
    }

pub loop-self-smaller : goal.loop-self-smaller
loop-self-smaller c =
    let s = c.loop-self.self in
    let f = c.in_ok-field in
    field_on s.size s.tag s.some s.left.now s.reader.job.now _ s.reader.offset _ c.loop-self-test.true (field_of f.field) f.ensures.field f.ensures.job f.ensures.offset

pub loop-self-preserved : goal.loop-self-preserved
unfolding rest_of
loop-self-preserved c =
    let s = c.loop-self.self in
    let f = c.in_ok-field in
    record {
      rest = left_past s.size s.tag s.some s.left.now s.reader.job.now _ s.reader.offset _ c.loop-self-test.true (field_of f.field) f.ensures.field f.ensures.job f.ensures.offset c.if-field-self.false ∙ c.loop-self.invariant.rest;
      size = c.loop-self.invariant.size;
    }

pub returns-clause-unit : goal.returns-clause-unit
unfolding rest_of
returns-clause-unit c =
    let s = c.loop-self.self in
    sym c.loop-self.invariant.rest ∙ units_taken s.size s.tag s.some s.left.now (left_of s.reader) _ _ c.loop-self-test.false c.split_at.ensures.front c.split_at.ensures.back
