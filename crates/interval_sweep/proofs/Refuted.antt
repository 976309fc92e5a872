-- Wrong sweeps that the contract of `interval_sweep` refuses, each at a row of the table: there the promise's answer, or a lent list, is a value that computes, and the
-- wrong program's is another. One that refuses all, one that says none always and one that does nothing to its work are refuted in `rules`. Assumes nothing.
use Prim.Native.Nat.{ℕ}
use mathlib.Core.Path.{◌≡◌, refl}
use mathlib.Core.List.{List, [], ◌∷◌}
use native.Mathlib.Omega.{arith}
use lib.Ieee.{Float, nan}
use lib.ListN.{replicate}
use Rattle.base.specs.declared.Place.{Place}
use Rattle.base.specs.declared.Stats.{Stats}
use Rattle.base.specs.Answers.{SweepAnswer, nothing, placed}
use Rattle.rules.specs.Sweep.{Sweep}
use Rattle.rules.specs.Calls.{SweepLent, IntervalPromise}
use Rattle.rules.specs.Computes.{computes}
use Rattle.rules.specs.Examples.{f0, f50, f100, case_d, case_e}
use Rattle.rules.specs.Edges.{table_b, f150}
use Rattle.rules.proofs.Refuted.{Unzeroed, ones_d, asked_with, asked, sweep_says_none, sweep_one_place, sweep_unzeroed, work_unzeroed, interval_made_up}
use Rattle.interval_sweep.specs.Given.{sweep_of}

-- the rows that `rules` asks for are what the call asks for
pub asked_is : (s : Sweep) (identities uppers : List Float) (minimum : Float) → asked_with s identities uppers minimum ≡ sweep_of s.query s.hashes s.starts s.ends s.settings s.range identities uppers minimum
asked_is s identities uppers minimum = refl

-- one fixed place: D is placed at 3, E at 4
pub interval_one_place : (x : Place) (s u : Stats) (a b : SweepLent) (k l : List ℕ) → IntervalPromise (asked case_d) (placed x s) ones_d a (replicate 6 1) k → IntervalPromise (asked case_e) (placed x u) ones_d b (replicate 6 1) l → ⊥
unfolding computes
interval_one_place x s u a b k l p q = let e : ◌≡◌ {A = ℕ} 3 4 = sweep_one_place x s u p.answer q.answer in omega (arith, e)

-- made-up windows: the range of D has 9
pub interval_made_up_windows : (x : Place) (s : Stats) (after : SweepLent) (keys : List ℕ) → (s.windows ≡ 9 → ⊥) → IntervalPromise (asked case_d) (placed x s) ones_d after (replicate 6 1) keys → ⊥
interval_made_up_windows x s after keys other p = other (interval_made_up x s after keys p).0

-- made-up coordinates: D has 3
pub interval_made_up_coordinates : (x : Place) (s : Stats) (after : SweepLent) (keys : List ℕ) → (s.coords ≡ 3 → ⊥) → IntervalPromise (asked case_d) (placed x s) ones_d after (replicate 6 1) keys → ⊥
interval_made_up_coordinates x s after keys other p = other (interval_made_up x s after keys p).1

-- one work list left unzeroed: whichever it is of the five that both sweeps have; the event keys
pub interval_leaves_a_list : (r : SweepAnswer) (after : SweepLent) (keys : List ℕ) → Unzeroed ones_d after → IntervalPromise (asked case_d) r ones_d after (replicate 6 1) keys → ⊥
unfolding computes
interval_leaves_a_list r after keys kept p = sweep_unzeroed 4 p.left kept

pub interval_leaves_keys : (r : SweepAnswer) (after : SweepLent) (keys : List ℕ) → keys ≡ replicate 6 1 → IntervalPromise (asked case_d) r ones_d after (replicate 6 1) keys → ⊥
unfolding computes
interval_leaves_keys r after keys kept p = work_unzeroed 6 _ p.keys_left (omega arith) refl kept

-- a rejection on a NaN: D with that upper bound and a minimum above every other, and with a minimum that is none
pub interval_rejects_on_nan : (s : Stats) (after : SweepLent) (keys : List ℕ) → IntervalPromise (asked_with case_d table_b (f0 ∷ nan ∷ f100 ∷ []) f150) (nothing s) ones_d after (replicate 6 1) keys → ⊥
unfolding computes
interval_rejects_on_nan s after keys p = sweep_says_none s p.answer refl

pub interval_rejects_on_nan_minimum : (s : Stats) (after : SweepLent) (keys : List ℕ) → IntervalPromise (asked_with case_d table_b table_b nan) (nothing s) ones_d after (replicate 6 1) keys → ⊥
unfolding computes
interval_rejects_on_nan_minimum s after keys p = sweep_says_none s p.answer refl

-- the identity tested: D with an identity below the minimum and an upper bound that equals it
pub interval_tests_the_identity : (s : Stats) (after : SweepLent) (keys : List ℕ) → IntervalPromise (asked_with case_d (f0 ∷ f0 ∷ f100 ∷ []) table_b f50) (nothing s) ones_d after (replicate 6 1) keys → ⊥
unfolding computes
interval_tests_the_identity s after keys p = sweep_says_none s p.answer refl
