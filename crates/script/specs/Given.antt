-- The call's lists as the rules take them.
use Rattle.std.specs.Prelude.{◌≡◌, cond, Option, Some, None, List, ℕ, ◌≤◌, length, ltb}
use Rattle.rules.specs.Limits.{query_limit, coord_limit, step_limit}
use Rattle.rules.specs.Refusals.{ScriptRoom}
use Rattle.rules.specs.Calls.{ScriptLent}
use Rattle.rules.specs.Script.{Script}
use Rattle.script_work.specs.Work.{script_of}
use Rattle.script.specs.declared.checks.Input.{Input}
use Rattle.script.specs.declared.checks.Lengths.{Lengths}

-- the script that is asked for
abbrev pub asked : Input → Script
asked i = script_of i.query.now i.coords.now i.indexes.now i.kinds.now

-- the lists that are lent
abbrev pub lent_of : (counts words summary pivots shareds : List ℕ) → ScriptLent
lent_of counts words summary pivots shareds = record { counts = counts; words = words; summary = summary; pivots = pivots; shareds = shareds }

-- their lengths
abbrev pub lengths_of : Lengths → ScriptRoom
lengths_of l = record { counts = l.counts; words = l.words; summary = l.summary; pivots = l.pivots; shareds = l.shareds }

-- the index i below n that was looked for; none where it is n
abbrev pub found : ℕ → ℕ → Option ℕ
found i n = cond (ltb i n) (Some i) None

-- no size passes its limit, and each step has its kind
pub record Sized (query coords indexes kinds : List ℕ) : Type 0 where
  pub few_hashes : length query ≤ query_limit
  pub few_coords : length coords ≤ coord_limit
  pub few_steps : length indexes ≤ step_limit
  pub parallel : length indexes ≡ length kinds
