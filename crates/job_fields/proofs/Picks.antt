-- A choice whose test is known. Assumes nothing.
use mathlib.Core.Path.{◌≡◌}
use mathlib.Core.Bool.{Bool, true, false}
use Rattle.base.specs.Pick.{pick}

module _ {A : Type 0} (t : Bool) (x y : A) where
  pub pick_yes : t ≡ true → pick t x y ≡ x
  unfolding pick
  pick_yes e = rw e

  pub pick_no : t ≡ false → pick t x y ≡ y
  unfolding pick
  pick_no e = rw e
