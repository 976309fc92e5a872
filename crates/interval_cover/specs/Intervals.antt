-- Keys of starts and keys of ends stand in two lists, each in order.
use Rattle.std.specs.Prelude.{◌≡◌, List, ℕ, ◌+◌, ◌*◌, ◌^◌, ◌≤◌, length}
use Rattle.base.specs.Lists.{Asc}
use Rattle.keys.specs.Lists.{below}
use Rattle.rules.specs.Limits.{item_limit}

-- sorted keys of intervals: as many starts as ends, each end after its start and in its contig. So of the ends at or before a key no more than of the
-- starts before it, and as many of both before each contig
pub record Intervals (opens closes : List ℕ) : Type 0 where
  pub asc_opens : Asc opens
  pub asc_closes : Asc closes
  pub parallel : length opens ≡ length closes
  pub few : length opens ≤ item_limit
  pub forward : (x : ℕ) → below (x + 1) closes ≤ below x opens
  pub within : (contig : ℕ) → below (contig * 2 ^ 32) closes ≡ below (contig * 2 ^ 32) opens
