-- `put_kept` counts the hits of neighbouring kept groups, and puts their keys after those of the groups before them where a dropped group or the end is met.
use native.Mathlib.Omega.{arith}
use Rattle.candidate_hits.proofs.Gathering.{put_part, filling_keep, filling_pass, filling_end}
use Rattle.candidate_hits.proofs.Hits.put_kept.Goals as goal

pub loop-group-preserved-then-from-self : goal.loop-group-preserved-then-from-self
loop-group-preserved-then-from-self c = filling_keep c.loop-group.invariant c.loop-group-test.true (omega arith)

pub loop-group-preserved : goal.loop-group-preserved
loop-group-preserved c = filling_pass c.loop-group.invariant c.loop-group-test.true (omega arith) (put_part _ _ _ _ _ _ c.args.self.parallel c.put_keys.ensures)

pub returns : goal.returns
returns c = filling_end c.loop-group.invariant c.loop-group-test.false (put_part _ _ _ _ _ _ c.args.self.parallel c.put_keys-2.ensures)
