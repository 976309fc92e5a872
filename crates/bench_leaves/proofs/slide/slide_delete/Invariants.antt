-- A delete leaves a state that is ready for the next.
use Rattle.slide_mapper.specs.Lent.{AtPivot}
use Rattle.bench_leaves.proofs.slide.slide_delete.Given as goal

abbrev pub invariant-loop-k : goal.invariant-loop-k
invariant-loop-k l = AtPivot l.lists l.slide
