-- An insert leaves a state that is ready for the next, and each count word with room for the inserts that are left.
use Rattle.std.proofs.Common.{arith}
use Rattle.std.proofs.lemmas.Grind.{common_steps}
use Rattle.slide_mapper.proofs.State.{ready_inserted}
use Rattle.slide_mapper.proofs.Lent.{ready_in, inserted_in}
use Rattle.bench_leaves.proofs.slide.slide_insert.Goals as goal

pub loop-k-preserved : goal.loop-k-preserved
loop-k-preserved c =
    let entered = c.insert_ref-slide.ensures.entered in
    record {
      at = record { slid = (ready_inserted (ready_in c.loop-k.invariant.at) c.if-lists-i.false (inserted_in entered)).slid };
      room = λ j. grind (arith, common_steps, entered.counts, c.loop-k.invariant.room j);
    }
