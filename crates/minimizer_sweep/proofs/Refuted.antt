-- Wrong sweeps that the contract of `minimizer_sweep` refuses, each at a row of the table: there the promise's answer, or a lent list, is a value that computes, and the
-- wrong program's is another. One that refuses all, one that says none always, one that gives one fixed place and one that does nothing to its work are refuted in
-- `rules`. Assumes nothing.
use mathlib.Core.Path.{◌≡◌, refl}
use mathlib.Core.List.{[], ◌∷◌}
use lib.Ieee.{nan}
use Rattle.base.specs.declared.Place.{Place}
use Rattle.base.specs.declared.Stats.{Stats}
use Rattle.base.specs.Answers.{SweepAnswer, nothing, placed}
use Rattle.rules.specs.Calls.{SweepLent, MinimizerPromise}
use Rattle.rules.specs.Computes.{computes}
use Rattle.rules.specs.Examples.{f0, f50, f100, case_b}
use Rattle.rules.specs.Edges.{table_b, f150, judged_b}
use Rattle.rules.proofs.Refuted.{Unzeroed, ones_b, sweep_says_none, sweep_unzeroed, minimizer_made_up}

-- made-up windows: B2 has 5 stops
pub minimizer_made_up_windows : (x : Place) (s : Stats) (after : SweepLent) → (s.windows ≡ 5 → ⊥) → MinimizerPromise (case_b 11) (placed x s) ones_b after → ⊥
minimizer_made_up_windows x s after other p = other (minimizer_made_up x s after p).0

-- made-up coordinates: B2 has 4
pub minimizer_made_up_coordinates : (x : Place) (s : Stats) (after : SweepLent) → (s.coords ≡ 4 → ⊥) → MinimizerPromise (case_b 11) (placed x s) ones_b after → ⊥
minimizer_made_up_coordinates x s after other p = other (minimizer_made_up x s after p).1

-- one work list left unzeroed, whichever it is
pub minimizer_leaves_a_list : (r : SweepAnswer) (after : SweepLent) → Unzeroed ones_b after → MinimizerPromise (case_b 11) r ones_b after → ⊥
unfolding computes
minimizer_leaves_a_list r after kept p = sweep_unzeroed 6 p.left kept

-- a rejection on a NaN: B2 with that upper bound and a minimum above every other, and with a minimum that is none
pub minimizer_rejects_on_nan : (s : Stats) (after : SweepLent) → MinimizerPromise (judged_b table_b (f0 ∷ f0 ∷ nan ∷ []) f150) (nothing s) ones_b after → ⊥
unfolding computes
minimizer_rejects_on_nan s after p = sweep_says_none s p.answer refl

pub minimizer_rejects_on_nan_minimum : (s : Stats) (after : SweepLent) → MinimizerPromise (judged_b table_b table_b nan) (nothing s) ones_b after → ⊥
unfolding computes
minimizer_rejects_on_nan_minimum s after p = sweep_says_none s p.answer refl

-- the identity tested: B2 with an identity below the minimum and an upper bound that equals it
pub minimizer_tests_the_identity : (s : Stats) (after : SweepLent) → MinimizerPromise (judged_b (f0 ∷ f0 ∷ f50 ∷ []) table_b f100) (nothing s) ones_b after → ⊥
unfolding computes
minimizer_tests_the_identity s after p = sweep_says_none s p.answer refl
