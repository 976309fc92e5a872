-- The events as keys, made from the intervals of a part of the lists: which of them are taken, the keys of one kind, and both kinds merged.
use Rattle.std.specs.Prelude.{◌≡◌, ◌&&◌, List, [], ◌∷◌, ◌++◌, map, ℕ, ◌+◌, ◌/◌, ◌≤◌, length, take, drop, ltb, leb}
use Rattle.base.specs.Pick.{pick}
use Rattle.base.specs.Lists.{Asc}
use Rattle.base.specs.Sort.{sort_of}
use Rattle.rules.specs.Limits.{item_limit}
use Rattle.rules.specs.Interval.{event_key}
use Rattle.interval_events.specs.declared.intervals.Intervals.{Intervals}

-- of a list beside the ends, what belongs to an interval that ends past `from`
unfoldable pub kept : ℕ → List ℕ → List ℕ → List ℕ
kept from [] xs = []
kept from (e ∷ es) [] = []
kept from (e ∷ es) (x ∷ xs) = pick (ltb from e) (x ∷ []) [] ++ kept from es xs

-- the keys of one kind, of the taken places past `from` and up to `to`, each with its coordinate number
unfoldable pub keys_of : (kind from to : ℕ) → List ℕ → List ℕ → List ℕ
keys_of kind from to [] ns = []
keys_of kind from to (p ∷ ps) [] = []
keys_of kind from to (p ∷ ps) (n ∷ ns) = pick (ltb from p && leb p to) (event_key p kind n ∷ []) [] ++ keys_of kind from to ps ns

-- a list with these answers at its front, and r says how many; what is past them is not told
pub record Front (answers out : List ℕ) (r : ℕ) : Type 0 where
  pub many : r ≡ length answers
  pub are : take r out ≡ answers

-- what the keys ask: a coordinate number for each taken place, and room for a key of each
pub record Numbered (from : ℕ) (places ends numbers out : List ℕ) : Type 0 where
  pub parallel : length ends ≡ length places
  pub taken : length numbers ≡ length (kept from ends places)
  pub room : length numbers ≤ length out

-- a key without its coordinate: its position, and its kind
abbrev pub turns : List ℕ → List ℕ
turns ks = map (λ (k : ℕ). k / 65536) ks

-- what the merge asks: the end keys ascend, and the start keys, which stand behind room for the others, ascend by position and kind
pub record Apart (ends out : List ℕ) : Type 0 where
  pub room : length ends ≤ length out
  pub ends_asc : Asc ends
  pub starts_asc : Asc (turns (drop (length ends) out))

-- and answers: the keys of both, ascending by position and kind
pub record Merged (starts ends out : List ℕ) : Type 0 where
  pub same : sort_of out ≡ sort_of (starts ++ ends)
  pub order : Asc (turns out)

-- what the events ask
pub record Local (from to : ℕ) (xs : Intervals) (numbers keys out : List ℕ) : Type 0 where
  pub taken : length numbers ≡ length (kept from xs.ends.now xs.starts.now)
  pub few : length numbers ≤ item_limit
  pub key_room : length numbers ≤ length keys
  pub room : length numbers + length numbers ≤ length out
  pub order : Asc (turns (keys_of 1 from to (kept from xs.ends.now xs.starts.now) numbers))

-- and answer: all of them at the front, r of them start keys and q end keys
pub record Made (from to : ℕ) (xs : Intervals) (numbers out : List ℕ) (r q : ℕ) : Type 0 where
  pub start_keys : r ≡ length (keys_of 1 from to (kept from xs.ends.now xs.starts.now) numbers)
  pub end_keys : q ≡ length (keys_of 0 from to (kept from xs.ends.now xs.ends.now) numbers)
  pub merged : Merged (keys_of 1 from to (kept from xs.ends.now xs.starts.now) numbers) (keys_of 0 from to (kept from xs.ends.now xs.ends.now) numbers) (take (q + r) out)
