-- What the work of a finder promises.
use Rattle.std.specs.Prelude.{◌≡◌, List}
use Rattle.base.specs.declared.Finding.{Finding}
use Rattle.rules.specs.Finder.{Finder, Candidate, seed_hits}
use Rattle.candidate_ranges.specs.declared.candidates.CandidateLists.{CandidateLists}
use Rattle.candidate_ranges.specs.Ranges.{Listed}

-- the ranges of the rules, and the seed hits
pub record Worked (f : Finder) (found : List Candidate) (old new : CandidateLists) (r : Finding) : Type 0 where
  pub listed : Listed found old new r.count
  pub hits : r.hits ≡ seed_hits f
