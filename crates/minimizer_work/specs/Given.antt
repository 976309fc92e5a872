-- The call's lists as the rules take them.
use Rattle.std.specs.Prelude.{List, [], ℕ, Float}
use Rattle.std.specs.Float.{nan}
use Rattle.base.specs.declared.Range.{Range}
use Rattle.base.specs.declared.Settings.{Settings}
use Rattle.rules.specs.Sweep.{Sweep}
use Rattle.minimizer_work.specs.declared.Search.{Search}

-- the sweep that is asked for
abbrev pub sweep_of : (settings : Settings) (window : ℕ) (range : Range) (query hashes starts : List ℕ) (identities uppers : List Float) (minimum : Float) → Sweep
sweep_of settings window range query hashes starts identities uppers minimum = record {
  query = query;
  hashes = hashes;
  starts = starts;
  ends = [];
  settings = settings;
  window = window;
  range = range;
  identities = identities;
  uppers = uppers;
  minimum = minimum;
}

-- the same without its table, at which the search for the best does not look
abbrev pub search_of : (query hashes starts : List ℕ) (settings : Settings) (window : ℕ) (range : Range) → Sweep
search_of query hashes starts settings window range = sweep_of settings window range query hashes starts [] [] nan

-- of a search as the code has it
abbrev pub asked : Search → Sweep
asked s = search_of s.query.now s.items.hashes.now s.items.positions.now s.settings s.window s.range
