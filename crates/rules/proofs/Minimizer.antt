-- Demand 3 for the minimizer sweep: where the local positions ascend strictly and W is at least 1, the answer by steps is the answer by scoring every start.
-- Starts with the same active items score and record the same, so the scored starts are the scored stops repeated, and repeats leave the best unchanged.
-- Assumes nothing.
use Prim.Native.Nat.{ℕ, suc, ◌+◌, ◌-◌, ◌<◌}
use mathlib.Core.Path.{◌≡◌, refl, sym}
use mathlib.Core.Bool.{Bool, true, false, ◌&&◌, false≢true}
use mathlib.Core.List.{List, map, map-append}
use native.Mathlib.Omega.{arith}
use lib.ListN.{length}
use lib.Dec.{ltb, eqb}
use borrow.Author.Tests.{lt-ltb, eq-eqb, ltb-true, eqb-true}
use Rattle.base.specs.Lists.{StrictAsc}
use Rattle.base.specs.OrderChecks.{order_of}
use Rattle.base.proofs.OrderChecks.{order_strict, strict_order}
use Rattle.rules.specs.Lists.{up_from}
use Rattle.rules.specs.Sweep.{Sweep, best}
use Rattle.rules.specs.Minimizer.{Stop, windows_per_start, local_items, position, below, scored_stop, scored_stops, scored_start, scored_starts}
use Rattle.rules.specs.Place.{minimizer_from, minimizer_answer, minimizer_by_scoring}
use Rattle.rules.specs.Calls.{minimizer_premises}
use Rattle.rules.proofs.Sweep.{Runs, join, runs_best, run_up}
use Rattle.rules.proofs.MinimizerPositions.{positions}
use Rattle.rules.proofs.MinimizerLocal.{strict_local}
use Rattle.rules.proofs.MinimizerStops.{At, moved}
use Rattle.rules.proofs.MinimizerStarts.{Covered, none, stop, stops_cover}

module _ (s : Sweep) where
  scored_at : (t : Stop) (q : ℕ) → At (local_items s) (windows_per_start s) (moved t q) → scored_start s q ≡ scored_stop s.query (local_items s) t
  unfolding scored_start scored_stop
  scored_at t q a =
      let e : below (q + 1) (local_items s) - 1 ≡ t.b = omega arith in
      rw (e, a.end)

  covered_runs : {ts : List Stop} {qs : List ℕ} → Covered (local_items s) (windows_per_start s) ts qs → Runs (map (scored_stop s.query (local_items s)) ts) (map (scored_start s) qs)
  unfolding scored_stop
  covered_runs none = Runs.none
  covered_runs (stop t n {qs = qs} same rest) =
      let x = scored_stop s.query (local_items s) t in
      rw (map-append (scored_start s) (up_from t.p (suc n)) qs)
      (join x (run_up (scored_start s) (λ _. position (local_items s) t.b) x.score n t.p λ q l m. scored_at t q (same q l m)) (covered_runs rest))

  module _ (up : StrictAsc (positions (local_items s))) (some : 0 < windows_per_start s) where
    pub best_by_steps : best (scored_stops s) ≡ best (scored_starts s)
    unfolding scored_stops scored_starts
    best_by_steps = sym (runs_best (covered_runs (stops_cover s up some)))

    pub answer_by_steps : minimizer_answer s ≡ minimizer_by_scoring s
    unfolding minimizer_answer minimizer_by_scoring minimizer_from
    answer_by_steps = rw best_by_steps

and-true : (a b : Bool) → (a && b) ≡ true → (a ≡ true) × (b ≡ true)
and-true true b e = (refl, e)
and-true false b e = absurd (false≢true e)

-- under the premises as the promise of the call states them
pub minimizer_demand_3 : (s : Sweep) → minimizer_premises s ≡ true → minimizer_answer s ≡ minimizer_by_scoring s
unfolding minimizer_premises
minimizer_demand_3 s h =
    let ps = positions (local_items s) in
    let rises = eqb (order_of ltb ps) (length ps) in
    let wide = ltb 0 (windows_per_start s) in
    let both = and-true rises wide (and-true (rises && wide) (ltb 0 (length s.query)) h).0 in
    answer_by_steps s (order_strict ps (omega (arith, eqb-true (order_of ltb ps) (length ps) both.0))) (ltb-true 0 (windows_per_start s) both.1)

-- the premises hold where the positions handed in ascend strictly and W and k are at least 1
pub premises_hold : (s : Sweep) → length s.hashes ≡ length s.starts → StrictAsc s.starts → 0 < windows_per_start s → 0 < length s.query → minimizer_premises s ≡ true
unfolding minimizer_premises
premises_hold s same up some query =
    let ps = positions (local_items s) in
    rw (eq-eqb (order_of ltb ps) (length ps) (strict_order ps (strict_local s same up)), lt-ltb 0 (windows_per_start s) some, lt-ltb 0 (length s.query) query)
