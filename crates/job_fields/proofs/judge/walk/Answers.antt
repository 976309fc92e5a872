-- `walk` keeps that what is left gives the verdict of the whole, and every step is a case of the rules' reading.
use mathlib.Core.Path.{sym, ap, ◌∙◌}
use native.Mathlib.Omega.{arith}
use borrow.Author.Tests.{eqb-true, eqb-false}
use lib.ListN.{length}
use Rattle.base.specs.declared.Reason.TheVariants.{BytesBehind}
use Rattle.std.proofs.lemmas.Result.{err_from_is_err_and}
use Rattle.job_fields.proofs.Walking.{refuse, walking_start, told_refused, told_onward, more_bytes, all_read}
use Rattle.job_fields.proofs.judge.walk.Goals as goal

pub loop-seen-init : goal.loop-seen-init
loop-seen-init c = record {
  job = c.new-reader.ensures.job;
  walking = rw c.new-reader.ensures.front (walking_start c.args.job.now c.requires);
}

pub next-requires : goal.next-requires
next-requires c =
    let w = c.loop-seen.invariant.walking in
    record { long = omega (arith, ap length c.loop-seen.invariant.job, c.requires); joined = omega (arith, w.small, w.here, c.requires) }

pub returns-in_err-seen : goal.returns-in_err-seen
returns-in_err-seen c =
    let p = err_from_is_err_and c.from_residual.result c.from_residual.ensures.1 in
    rw (p.1, p.2) (told_refused c.args.job.now c.loop-seen.reader.job.now c.loop-seen.invariant.job c.loop-seen.reader.offset c.loop-seen.seen c.loop-seen.invariant.walking _ c.in_err-seen.ensures.step)

pub loop-seen-smaller : goal.loop-seen-smaller
loop-seen-smaller c =
    let o = told_onward c.args.job.now c.loop-seen.reader.job.now c.loop-seen.invariant.job c.loop-seen.reader.offset c.loop-seen.seen c.loop-seen.invariant.walking _ c.in_ok-seen.ensures.step in
    omega (arith, o.on, o.upto, c.in_ok-seen.ensures.offset)

pub loop-seen-preserved : goal.loop-seen-preserved
loop-seen-preserved c =
    let o = told_onward c.args.job.now c.loop-seen.reader.job.now c.loop-seen.invariant.job c.loop-seen.reader.offset c.loop-seen.seen c.loop-seen.invariant.walking _ c.in_ok-seen.ensures.step in
    record {
      job = c.in_ok-seen.ensures.job ∙ c.loop-seen.invariant.job;
      walking = rw c.in_ok-seen.ensures.offset (o.further c.if-seen.false);
    }

pub returns-then-is_at_end : goal.returns-then-is_at_end
returns-then-is_at_end c =
    let o = told_onward c.args.job.now c.loop-seen.reader.job.now c.loop-seen.invariant.job c.loop-seen.reader.offset c.loop-seen.seen c.loop-seen.invariant.walking _ c.in_ok-seen.ensures.step in
    let end = eqb-true c.next.new.reader.offset (length c.next.new.reader.job.now) (sym c.if-is_at_end.ensures) in
    let same = ap length (c.in_ok-seen.ensures.job ∙ c.loop-seen.invariant.job) in
    all_read (o.ended c.if-seen.true) (omega (arith, end, same, c.in_ok-seen.ensures.offset))

pub returns : goal.returns
returns c =
    let o = told_onward c.args.job.now c.loop-seen.reader.job.now c.loop-seen.invariant.job c.loop-seen.reader.offset c.loop-seen.seen c.loop-seen.invariant.walking _ c.in_ok-seen.ensures.step in
    let short = eqb-false c.next.new.reader.offset (length c.next.new.reader.job.now) (sym c.if-is_at_end.ensures) in
    let same = ap length (c.in_ok-seen.ensures.job ∙ c.loop-seen.invariant.job) in
    ap (refuse BytesBehind) (c.offset.ensures ∙ c.in_ok-seen.ensures.offset) ∙ more_bytes (o.ended c.if-seen.true) (omega (arith, short, same, c.in_ok-seen.ensures.offset, o.upto))
