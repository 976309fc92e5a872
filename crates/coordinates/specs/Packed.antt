-- Packed keys: the leading bits of a hash over its place in the query with the items behind it, which has 16 bits.
use Rattle.std.specs.Prelude.{◌≡◌, List, ◌++◌, ℕ, ◌+◌, ◌%◌, ◌≤◌, ◌<◌, length, get_or}

-- the place that a key holds
abbrev pub place_of : ℕ → ℕ
place_of key = key % 65536

-- the hash whose key stands at t
unfoldable pub hash_of : List ℕ → List ℕ → List ℕ → ℕ → ℕ
hash_of query hashes keys t = get_or (query ++ hashes) (place_of (get_or keys t 0)) 0

-- each of the first n keys' places has a flag, and each flag that is set is one of these
pub record Flagged (keys flags : List ℕ) (n : ℕ) : Type 0 where
  pub fits : (t : ℕ) → t < n → place_of (get_or keys t 0) < length flags
  pub from : (i : ℕ) → i < length flags → 0 < get_or flags i 0 → (t : ℕ) × (t < n) × (place_of (get_or keys t 0) ≡ i)

-- every place below m stands in some key, and no other
pub record Placed (m : ℕ) (keys : List ℕ) : Type 0 where
  pub fits : (t : ℕ) → t < length keys → place_of (get_or keys t 0) < m
  pub all : (i : ℕ) → i < m → (t : ℕ) × (t < length keys) × (place_of (get_or keys t 0) ≡ i)

-- the keys hold the places of the query with the items behind it
pub record Places (query hashes keys : List ℕ) : Type 0 where
  pub few : length query + length hashes ≤ 65536
  pub many : length keys ≡ length query + length hashes
  pub placed : Placed (length query + length hashes) keys
