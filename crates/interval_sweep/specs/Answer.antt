-- From what a sweep found to the answer.
use Rattle.std.specs.Prelude.{◌≡◌, List, ℕ, ◌+◌, ◌-◌, ◌*◌, ◌≤◌, length, replicate, Float, Option, Some, None, MatchOption}
use Rattle.base.specs.Answers.{SweepAnswer, nothing}
use Rattle.base.specs.declared.Range.{Range}
use Rattle.base.specs.declared.Stats.{Stats}
use Rattle.rules.specs.Sweep.{Sweep}
use Rattle.rules.specs.Place.{no_stats, settled, interval_answer}
use Rattle.sweep.specs.Beginning as sweep
use Rattle.sweep.specs.Work.{Fits}
use Rattle.interval_work.specs.declared.Swept.{Swept}
use Rattle.interval_sweep.specs.declared.checked.Checked.{Checked}

-- none, settled before coordinates are built
abbrev pub none : SweepAnswer
none = nothing no_stats

-- range length, coordinates, intervals taken
abbrev pub stats_of : Range → Swept → Stats
stats_of range r = record { windows = range.end + 1 - range.start; coords = r.coords; items = r.items }

-- what the placing asks: the range goes forward, and if an interval was taken the best can be placed
pub record Placeable (c : Checked) (range : Range) (r : Option Swept) : Type 0 where
  pub forward : range.start ≤ range.end
  pub fits : MatchOption r (Unit {0}) (λ w. Fits c.settings.length (length c.query.now) c.table.identities.now c.table.uppers.now w.best)

-- and answers
abbrev pub placed : Checked → Range → Float → Option Swept → SweepAnswer
placed c range minimum None = none
placed c range minimum (Some r) = settled c.settings.length (length c.query.now) c.table.identities.now c.table.uppers.now minimum (stats_of range r) r.best

-- the answer is the rules', and the work lists are zero
pub record Answered (s : Sweep) (keys counts coords words summary out : List ℕ) (r : SweepAnswer) : Type 0 where
  pub answer_is : r ≡ interval_answer s
  pub clear : sweep.Clear (length s.query + length s.hashes) keys counts coords words summary
  pub out_zero : out ≡ replicate (2 * length s.hashes) 0

-- the work lists have the needed sizes
pub record Exact (m items : ℕ) (keys counts coords words summary out : List ℕ) : Type 0 where
  pub lists : sweep.Exact m keys counts coords words summary
  pub out_size : length out ≡ 2 * items
