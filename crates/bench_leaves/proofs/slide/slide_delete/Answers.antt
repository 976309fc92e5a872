-- A delete leaves a state that is ready for the next.
use Rattle.slide_mapper.proofs.State.{ready_deleted}
use Rattle.slide_mapper.proofs.Lent.{ready_in, deleted_in}
use Rattle.bench_leaves.proofs.slide.slide_delete.Goals as goal

pub loop-k-preserved : goal.loop-k-preserved
loop-k-preserved c = record { slid = (ready_deleted (ready_in c.loop-k.invariant) c.if-lists-i.false (deleted_in c.delete_ref-slide.ensures.left)).slid }
