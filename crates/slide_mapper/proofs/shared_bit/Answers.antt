-- `shared_bit` reads the count word: below 2 nothing is active, above it the lowest bit is the query's flag.
use native.Mathlib.Omega.{arith}
use Rattle.slide_mapper.proofs.State.{shared_at}
use Rattle.slide_mapper.proofs.shared_bit.Goals as goal

pub returns-then-word-lt2 : goal.returns-then-word-lt2
returns-then-word-lt2 c = omega (arith, shared_at c.args.counts.now c.args.coord.0)

pub returns-else-word-lt2 : goal.returns-else-word-lt2
returns-else-word-lt2 c = omega (arith, shared_at c.args.counts.now c.args.coord.0)
