-- The output lists as a struct: what a step leaves in them.
use Rattle.std.specs.Prelude.{◌≡◌, ℕ, set}
use Rattle.base.specs.declared.Slide.{Slide}
use Rattle.script_work.specs.declared.looks.Looks.{Looks}

-- the same two lists are lent on, so that who made the struct knows what its lists hold
pub record SameLooks (old new : Looks) : Type 0 where
  pub pivots : new.pivots.ghost_name ≡ old.pivots.ghost_name
  pub shareds : new.shareds.ghost_name ≡ old.shareds.ghost_name

-- the answer at j is that of the state, and the others are as they were
pub record Put (old : Looks) (j : ℕ) (at : Slide) (new : Looks) : Type 0 where
  pub pivots : new.pivots.now ≡ set old.pivots.now j at.pivot.0
  pub shareds : new.shareds.now ≡ set old.shareds.now j at.shared
