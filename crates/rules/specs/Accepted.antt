-- What the work behind a call's checks may count on, where no check refused (proofs/Accepted): not promises, but what `work` requires.
use Rattle.std.specs.Prelude.{ℕ, ◌+◌, ◌≤◌, ◌<◌, ◌≡◌, List, length}
use Rattle.base.specs.Lists.{Asc, StrictAsc}
use Rattle.rules.specs.Lists.{sum}
use Rattle.rules.specs.Limits.{query_limit, item_limit, group_limit, step_limit, coord_limit, minimum_limit}
use Rattle.rules.specs.Checks.{ceil64}

-- both sweeps; of the table's two lists the lengths
pub record SweepAccepted (query hashes starts : List ℕ) (identities uppers kmer : ℕ) : Type 0 where
  pub few_hashes : length query ≤ query_limit
  pub few_items : length hashes ≤ item_limit
  pub kmer_is : 0 < kmer
  pub same_starts : length hashes ≡ length starts
  pub same_table : identities ≡ uppers
  pub entries : length query + 1 ≤ identities
  pub query_ascends : StrictAsc query
  pub starts_ascend : Asc starts

-- a sweep's work buffers, where m = k + items
pub record SweepFits (m hashes counts coords words summary : ℕ) : Type 0 where
  pub hashes_fit : m ≤ hashes
  pub counts_fit : m ≤ counts
  pub coords_fit : m ≤ coords
  pub words_fit : ceil64 m ≤ words
  pub summary_fits : ceil64 (ceil64 m) ≤ summary

-- the script
pub record ScriptAccepted (query coords indexes kinds : List ℕ) : Type 0 where
  pub few_hashes : length query ≤ query_limit
  pub few_coords : length coords ≤ coord_limit
  pub some_coord : 0 < length coords
  pub few_steps : length indexes ≤ step_limit
  pub same_steps : length indexes ≡ length kinds
  pub some_hash : 0 < length query
  pub query_ascends : StrictAsc query
  pub coords_ascend : StrictAsc coords

-- a script's buffers
pub record ScriptFits (m steps counts words summary pivots shareds : ℕ) : Type 0 where
  pub counts_fit : m ≤ counts
  pub words_fit : ceil64 m ≤ words
  pub summary_fits : ceil64 (ceil64 m) ≤ summary
  pub pivots_fit : steps ≤ pivots
  pub shareds_fit : steps ≤ shareds

-- both finders
pub record FinderAccepted (contigs starts groups : List ℕ) (minimum : ℕ) : Type 0 where
  pub few_hits : length contigs ≤ item_limit
  pub few_groups : length groups ≤ group_limit
  pub minimum_is : 0 < minimum
  pub minimum_fits : minimum ≤ minimum_limit
  pub same_starts : length contigs ≡ length starts
  pub groups_sum : sum groups ≡ length contigs

-- a finder's buffers
pub record FinderFits (hits keys contigs starts ends : ℕ) : Type 0 where
  pub keys_fit : hits ≤ keys
  pub contigs_fit : hits ≤ contigs
  pub starts_fit : hits ≤ starts
  pub ends_fit : hits ≤ ends
