-- An insert leaves a state that is ready for the next, and each count word with room for the inserts that are left.
use Rattle.std.proofs.Common.{ℕ, ◌+◌, ◌*◌, ◌-◌, ◌^◌, ◌<◌, length, get_or}
use Rattle.slide_mapper.specs.Lent.{AtPivot}
use Rattle.bench_leaves.proofs.slide.slide_insert.Given as goal

abbrev pub invariant-loop-k : goal.invariant-loop-k
invariant-loop-k l = record {
  at : AtPivot l.lists l.slide;
  room : (j : ℕ) → get_or l.lists.counts.now j 0 + 2 * (length l.at - l.k) < 2 ^ 32;
}
