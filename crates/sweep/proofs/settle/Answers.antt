-- `settle` answers what `settled` says: the branch is the test of the upper bound, and the place is taken from the same entry of the table.
use mathlib.Core.Path.{◌≡◌}
use mathlib.Core.Bool.{true, false}
use mathlib.Core.List.{List}
use Prim.Native.Nat.{ℕ}
use lib.Ieee.{Float, lt}
use Rattle.base.specs.Pick.{pick}
use Rattle.base.specs.declared.Best.{Best}
use Rattle.base.specs.declared.Estimate.{Estimate}
use Rattle.base.specs.declared.Stats.{Stats}
use Rattle.base.specs.Answers.{nothing, placed}
use Rattle.rules.specs.Sweep.{base}
use Rattle.rules.specs.Place.{estimate_at, start_of, place_of, settled}
use Rattle.sweep.proofs.settle.Goals as goal

-- what the test of the upper bound decides
module _ (len size : ℕ) (identities uppers : List Float) (minimum : Float) (stats : Stats) (b : Best) (e : Estimate) (is : e ≡ estimate_at identities uppers b.shared) where
  rejected : lt e.upper minimum ≡ true → nothing stats ≡ settled len size identities uppers minimum stats b
  unfolding settled pick
  rejected below = simp (← is, below)

  kept : lt e.upper minimum ≡ false → placed (place_of len size e b) stats ≡ settled len size identities uppers minimum stats b
  unfolding settled pick
  kept above = simp (← is, above)

pub returns-then-estimate-minimum : goal.returns-then-estimate-minimum
returns-then-estimate-minimum c = rejected _ _ _ _ _ _ _ _ c.estimate-estimate.ensures c.if-estimate-minimum.true

pub returns : goal.returns
unfolding start_of place_of base
returns c = rw c.from.ensures (kept _ _ _ _ _ _ _ _ c.estimate-estimate.ensures c.if-estimate-minimum.false)
