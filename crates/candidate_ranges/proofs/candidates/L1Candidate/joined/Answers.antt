-- `joined` is the range of the rules, whose end is the larger.
use Prim.Native.Nat.{ℕ}
use mathlib.Core.Path.{ap}
use Rattle.rules.specs.Finder.{joined}
use Rattle.candidate_ranges.proofs.candidates.L1Candidate.joined.Goals as goal

pub returns : goal.returns
unfolding joined
returns c = ap (λ (e : ℕ). record { contig = c.args.self.contig; start = c.args.self.start; end = e }) c.max.ensures
