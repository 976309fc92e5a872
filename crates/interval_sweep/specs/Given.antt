-- The call's lists as the rules take them.
use Rattle.std.specs.Prelude.{◌≡◌, List, ℕ, ◌+◌, ◌*◌, ◌≤◌, length, Float}
use Rattle.base.specs.Verdicts.{Verdict, or_else}
use Rattle.base.specs.declared.Range.{Range}
use Rattle.base.specs.declared.Settings.{Settings}
use Rattle.rules.specs.Accepted.{SweepAccepted, SweepFits}
use Rattle.rules.specs.Sweep.{Sweep}
use Rattle.rules.specs.Calls.{SweepLent}
use Rattle.rules.specs.Checks.{interval_sizes, sweep_orders, sweep_table, sweep_needs, keys_need}
use Rattle.sweep.specs.declared.Lengths.{Lengths}
use Rattle.interval_sweep.specs.declared.input.Input.{Input}
use Rattle.interval_sweep.specs.declared.checked.Checked.{Checked}

-- the rules' `interval_verdict`, of what it looks at: of the work lists and the event keys the lengths
abbrev pub verdict_of : Input → Lengths → ℕ → Verdict
verdict_of i lent events =
    or_else
    (or_else (interval_sizes (length i.query.now) (length i.hashes.now) (length i.starts.now) (length i.ends.now) (length i.table.identities.now) (length i.table.uppers.now) i.settings.kmer)
    (or_else (sweep_orders i.query.now i.starts.now) (sweep_table (length i.query.now) (length i.table.identities.now))))
    (or_else (sweep_needs (length i.query.now + length i.hashes.now) lent.keys lent.counts lent.coords lent.words lent.summary) (keys_need (length i.hashes.now) events))

-- what no refusal tells: the input may be worked at, and in these lists
pub record Passed (i : Input) (lent : Lengths) (events : ℕ) : Type 0 where
  pub accepted : SweepAccepted i.query.now i.hashes.now i.starts.now (length i.table.identities.now) (length i.table.uppers.now) i.settings.kmer
  pub same_ends : length i.hashes.now ≡ length i.ends.now
  pub fits : SweepFits (length i.query.now + length i.hashes.now) lent.keys lent.counts lent.coords lent.words lent.summary
  pub events_fit : 2 * length i.hashes.now ≤ events

-- the sweep that is asked for; it has no window
abbrev pub sweep_of : (query hashes starts ends : List ℕ) → Settings → Range → (identities uppers : List Float) → Float → Sweep
sweep_of query hashes starts ends settings range identities uppers minimum = record {
  query = query;
  hashes = hashes;
  starts = starts;
  ends = ends;
  settings = settings;
  window = 0;
  range = range;
  identities = identities;
  uppers = uppers;
  minimum = minimum;
}

-- the same of an input that passed its checks
abbrev pub asked : Checked → Range → Float → Sweep
asked c range minimum = sweep_of c.query.now c.intervals.hashes.now c.intervals.starts.now c.intervals.ends.now c.settings range c.table.identities.now c.table.uppers.now minimum

-- the lists that are lent
abbrev pub lent_of : (keys counts coords words summary : List ℕ) → SweepLent
lent_of keys counts coords words summary = record { hashes = keys; counts = counts; coords = coords; words = words; summary = summary }
