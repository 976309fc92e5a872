-- Two numbers compared either way, as a sum to take apart: omega goes by facts and takes no sum apart. Assumes nothing.
use mathlib.Core.Logic.{◌⊎◌, inl, inr}
use Prim.Native.Nat.{ℕ, ◌≤◌, ◌<◌}
use native.Mathlib.Omega.{arith}
use Rattle.std.proofs.lemmas.Bool.{cases_lt}

pub le_or_le : (a b : ℕ) → (a ≤ b) ⊎ (b ≤ a)
le_or_le a b = go (cases_lt a b)
  where
    go : (a < b) ⊎ (b ≤ a) → (a ≤ b) ⊎ (b ≤ a)
    go (inl l) = inl (omega arith)
    go (inr l) = inr l
