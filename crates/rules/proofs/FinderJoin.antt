-- One range more after the previous: it is joined to it, or the previous one stands. Assumes nothing.
use Prim.Native.Nat.{ℕ}
use mathlib.Core.Path.{◌≡◌, refl}
use mathlib.Core.Bool.{true, false}
use mathlib.Core.List.{List, [], ◌∷◌}
use Rattle.base.specs.Pick.{pick}
use Rattle.rules.specs.Finder.{Candidate, joins, joined, join_from, join_all}

module _ (gap : ℕ) where
  pub join_none : join_all gap [] ≡ []
  unfolding join_all
  join_none = refl

  pub join_first : (c : Candidate) (cs : List Candidate) → join_all gap (c ∷ cs) ≡ join_from gap c cs
  unfolding join_all
  join_first c cs = refl

  module _ (prev : Candidate) where
    pub join_end : join_from gap prev [] ≡ prev ∷ []
    unfolding join_from
    join_end = refl

    module _ (c : Candidate) (cs : List Candidate) where
      pub join_in : joins gap prev c ≡ true → join_from gap prev (c ∷ cs) ≡ join_from gap (joined prev c) cs
      unfolding join_from pick
      join_in e = rw e

      pub join_out : joins gap prev c ≡ false → join_from gap prev (c ∷ cs) ≡ prev ∷ join_from gap c cs
      unfolding join_from pick
      join_out e = rw e
