-- The call's lists as the rules take them.
use Rattle.std.specs.Prelude.{List, ℕ}
use Rattle.rules.specs.Finder.{Finder}
use Rattle.interval_hits.specs.declared.IntervalHits.{IntervalHits}

-- the hits that are asked about; this finder has no length
abbrev pub finder_of : (groups contigs starts ends : List ℕ) (threshold minimum : ℕ) → Finder
finder_of groups contigs starts ends threshold minimum = record {
  contigs = contigs;
  starts = starts;
  ends = ends;
  groups = groups;
  threshold = threshold;
  minimum = minimum;
  length = 0;
}

-- the same of hits that passed the checks
abbrev pub asked_of : IntervalHits → (minimum : ℕ) → Finder
asked_of h minimum = finder_of h.groups.now h.contigs.now h.starts.now h.ends.now h.threshold minimum
