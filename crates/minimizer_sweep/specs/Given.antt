-- The call's lists as the rules take them, and what their checks leave.
use Rattle.std.specs.Prelude.{List, ℕ, ◌+◌, ◌<◌, Float, length}
use Rattle.base.specs.Verdicts.{Verdict, or_else}
use Rattle.rules.specs.Calls.{SweepLent}
use Rattle.rules.specs.Checks.{minimizer_input, sweep_needs}
use Rattle.rules.specs.Sweep.{Sweep}
use Rattle.sweep.specs.declared.Table.{Table}
use Rattle.minimizer_work.specs.declared.Search.{Search}
use Rattle.minimizer_work.specs.Given.{sweep_of}

-- the lists that are lent
abbrev pub lent_of : (hashes counts coords words summary : List ℕ) → SweepLent
lent_of hashes counts coords words summary = record { hashes = hashes; counts = counts; coords = coords; words = words; summary = summary }

-- the sweep that is asked for, of a search and its table as the code has them
abbrev pub asked_by : Search → Table → Float → Sweep
asked_by s t minimum = sweep_of s.settings s.window s.range s.query.now s.items.hashes.now s.items.positions.now t.identities.now t.uppers.now minimum

-- the rules' `minimizer_verdict`, of what it looks at: of the table and the work lists the lengths
abbrev pub verdict_of : (query hashes starts : List ℕ) (identities uppers kmer window keys counts coords words summary : ℕ) → Verdict
verdict_of query hashes starts identities uppers kmer window keys counts coords words summary =
    or_else (minimizer_input query hashes starts identities uppers kmer window)
    (sweep_needs (length query + length hashes) keys counts coords words summary)

-- a table that passed its checks has the entry of every count of shared hashes
pub record Covers (size : ℕ) (identities uppers : List Float) : Type 0 where
  pub identity : size < length identities
  pub upper : size < length uppers
