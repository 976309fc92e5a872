-- `put_keys` passes the hits one by one; an interval has its two keys put.
use native.Mathlib.Omega.{arith}
use Rattle.interval_hits.proofs.Gathering.{putting_start, putting_pass, putting_step, putting_end}
use Rattle.interval_hits.proofs.put_keys.Goals as goal

pub loop-k-init : goal.loop-k-init
loop-k-init c = putting_start

pub loop-k-preserved-then-end-start : goal.loop-k-preserved-then-end-start
loop-k-preserved-then-end-start c = putting_pass c.requires.starts c.requires.ends c.loop-k.invariant c.loop-k-test.true c.if-end-start.true

pub loop-k-preserved : goal.loop-k-preserved
loop-k-preserved c =
    putting_step c.requires.starts c.requires.ends c.loop-k.invariant c.loop-k-test.true _ _ (omega (arith, c.requires.open_room)) (omega (arith, c.requires.close_room))
    c.if-end-start.false c.key_of.ensures c.key_of-in-loop-k.ensures

pub returns : goal.returns
returns c = putting_end c.requires.starts c.requires.ends c.loop-k.invariant c.loop-k-test.false
