-- `contig_of` is the upper half of a key.
use borrow.Author.Rules.{rules}
use Rattle.rules.specs.Finder.{key_contig}
use Rattle.candidate_hits.proofs.contig_of.Goals as goal

pub returns : goal.returns
unfolding key_contig
returns c = search rules
