-- `at_of` is the rest of a key.
use borrow.Author.Rules.{rules}
use Rattle.rules.specs.Finder.{key_at}
use Rattle.candidate_hits.proofs.at_of.Goals as goal

pub returns : goal.returns
unfolding key_at
returns c = search rules
