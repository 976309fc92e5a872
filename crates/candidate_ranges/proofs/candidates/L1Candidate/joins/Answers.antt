-- `joins` is the test of the rules.
use Rattle.rules.specs.Finder.{joins}
use borrow.Author.Tests.{eq-eqb, ne_eqb}
use Rattle.candidate_ranges.proofs.candidates.L1Candidate.joins.Goals as goal

pub returns-then-self-next : goal.returns-then-self-next
unfolding joins
returns-then-self-next c = rw (eq-eqb c.args.self.contig c.args.next.contig c.if-self-next.true, c.from.ensures, c.from-then-self-next.ensures)

pub returns-else-self-next : goal.returns-else-self-next
unfolding joins
returns-else-self-next c = rw (ne_eqb c.args.self.contig c.args.next.contig c.if-self-next.false)
