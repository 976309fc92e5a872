-- The call's lists as the rules take them.
use Rattle.std.specs.Prelude.{List, [], ℕ, ◌||◌, not, length, ltb, eqb}
use Rattle.std.specs.List.{list_any}
use Rattle.base.specs.Pick.{pick}
use Rattle.base.specs.Verdicts.{Verdict, Fine, refuse}
use Rattle.base.specs.declared.Reason.TheVariants.{TooLarge, BadSetting, UnequalLengths, ShortBuffer}
use Rattle.rules.specs.Limits.{item_limit, group_limit, minimum_limit}
use Rattle.rules.specs.Lists.{sum}
use Rattle.rules.specs.Finder.{Finder}
use Rattle.rules.specs.Calls.{FinderLent}
use Rattle.candidate_hits.specs.declared.Hits.{Hits}

-- the hits that are asked about: positions are starts, and there are no ends
abbrev pub finder_of : (groups contigs positions : List ℕ) (threshold minimum len : ℕ) → Finder
finder_of groups contigs positions threshold minimum len = record {
  contigs = contigs;
  starts = positions;
  ends = [];
  groups = groups;
  threshold = threshold;
  minimum = minimum;
  length = len;
}

-- the same of hits that passed the checks
abbrev pub asked_of : Hits → (minimum len : ℕ) → Finder
asked_of h minimum len = finder_of h.groups.now h.contigs.now h.positions.now h.threshold minimum len

-- the lists that are lent
abbrev pub lent_of : (keys contigs starts ends : List ℕ) → FinderLent
lent_of keys contigs starts ends = record { keys = keys; contigs = contigs; starts = starts; ends = ends }

-- the verdict of a finder's checks, of the lengths of the parallel lists and of the lent ones: both finders' are this one at their lists
unfoldable pub verdict_of : (groups : List ℕ) (hits : ℕ) (parallel : List ℕ) (minimum : ℕ) (lent : List ℕ) → Verdict
verdict_of groups hits parallel minimum lent =
    pick (list_any (λ n. ltb item_limit n) parallel || ltb group_limit (length groups)) (refuse TooLarge 0)
    (pick (eqb minimum 0 || ltb minimum_limit minimum) (refuse BadSetting 0)
    (pick (list_any (λ n. not (eqb hits n)) parallel || not (eqb (sum groups) hits)) (refuse UnequalLengths 0)
    (pick (list_any (λ n. ltb n hits) lent) (refuse ShortBuffer 0) Fine)))
