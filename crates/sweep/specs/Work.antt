-- What the parts of a sweep promise each other.
use Rattle.std.specs.Prelude.{◌≡◌, List, ℕ, ◌^◌, ◌≤◌, ◌<◌, length, replicate, Float}
use Rattle.base.specs.declared.Best.{Best}

-- a list that was cleared whole
abbrev pub Cleared : List ℕ → List ℕ → Type 0
Cleared entry exit = exit ≡ replicate (length entry) 0

-- a best that can be placed: the table has its entry, and the place fits its fields. A fragment has a base at least
pub record Fits (len size : ℕ) (identities uppers : List Float) (b : Best) : Type 0 where
  pub some : 1 ≤ len
  pub small : size < 2 ^ 32
  pub identity : b.shared < length identities
  pub upper : b.shared < length uppers
  pub first : b.first.0 < 2 ^ 32
  pub last : b.last.0 < 2 ^ 32
