-- Query and coordinates that passed their checks.
use Rattle.std.specs.Prelude.{◌≡◌, true, List, ℕ, ◌≤◌, ◌<◌, length, get_or}
use Rattle.base.specs.Lists.{StrictAsc}
use Rattle.rules.specs.Limits.{coord_limit}
use Rattle.rules.specs.Lists.{member}
use Rattle.rules.specs.Score.{number_of}

-- query and coordinates passed their checks
pub record Sound (query coords : List ℕ) : Type 0 where
  pub few : length coords ≤ coord_limit
  pub some : 0 < length query
  pub query_asc : StrictAsc query
  pub coords_asc : StrictAsc coords
  pub within : (h : ℕ) → member h query ≡ true → member h coords ≡ true

-- the places of the query's first n hashes among the coordinates
pub record Placed (query coords places : List ℕ) (n : ℕ) : Type 0 where
  pub at : (i : ℕ) → i < n → get_or places i 0 ≡ number_of coords (get_or query i 0)
