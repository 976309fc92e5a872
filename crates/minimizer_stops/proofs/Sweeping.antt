-- The whole sweep: the first stop is found by a count of positions; its score begins the best, where scoring it again changes nothing; and where it is not scored
-- nothing is. Assumes nothing.
use mathlib.Core.Path.{◌≡◌, refl, sym, ap, ◌∙◌}
use mathlib.Core.Logic.{⊎_elim}
use mathlib.Core.Bool.{Bool, true, false}
use mathlib.Core.List.{List, [], ◌∷◌}
use Prim.Native.Nat.{ℕ, suc, ◌+◌, ◌-◌, ◌≤◌, ◌<◌}
use native.Mathlib.Nat.{le_refl}
use native.Mathlib.Omega.{arith}
use lib.ListN.{length, get_or}
use borrow.Author.Tests.{le-ltb, eq-eqb}
use Rattle.base.specs.Pick.{pick}
use Rattle.base.specs.Lists.{Asc}
use Rattle.base.specs.declared.Best.{Best}
use Rattle.rules.specs.Score.{number_of}
use Rattle.rules.specs.Sweep.{Scored, base, better, best_from, best}
use Rattle.rules.specs.Minimizer.{Item, items_of, position, below, first_stop, goes_on, moves, next_stop, scored_stop, stops_from}
use Rattle.rules.specs.Minimizer as rules
use Rattle.rules.proofs.Score.{cases}
use Rattle.rules.proofs.MinimizerPositions.{lower, lower-le, lower_above, below_is}
use Rattle.rules.proofs.MinimizerLocal.{items_positions}
use Rattle.rules.proofs.MinimizerSteps.{stops_end, stops_last, stops_on}
use Rattle.keys.specs.Lists.{below as keysBelow}
use Rattle.keys.proofs.Numbers.{below_number}
use Rattle.base.specs.declared.Slide.{Slide}
use Rattle.slide_mapper.specs.State.{flags_of}
use Rattle.sweep.specs.Active.{asked}
use Rattle.minimizer_stops.specs.declared.Stop.{Stop}
use Rattle.minimizer_stops.specs.declared.Swept.{Swept}
use Rattle.minimizer_stops.specs.Stops.{sites, stop_of, scored_at, scored_for, stops_of, Holds, Over, Whole}
use Rattle.minimizer_stops.proofs.Moving.{site_at, goes_facts}
use Rattle.minimizer_stops.proofs.Running.{stop_scored}
use Rattle.slide_mapper.specs.declared.lists.MapperLists.{MapperLists}

-- ---- the first stop

module _ (ps : List ℕ) (w p e : ℕ) (at_first : p ≡ get_or ps 0 0) (found : e ≡ keysBelow (p + w) ps) where
  is_lower : e ≡ lower (p + w) ps
  unfolding number_of
  is_lower = found ∙ below_number (p + w) ps

  pub first_is : stop_of (record { b = 0; e = e; p = record { 0 = p } }) ≡ first_stop w (sites ps)
  unfolding first_stop
  first_is = λ d. record { b = 0; e = ends d; p = begins d }
    where
      begins : p ≡ position (sites ps) 0
      begins = at_first ∙ sym (site_at ps 0)

      ends : e ≡ below (position (sites ps) 0 + w) (sites ps)
      ends =
          is_lower ∙ ap (λ (q : ℕ). lower (q + w) ps) begins ∙ ap (lower (position (sites ps) 0 + w)) (sym (items_positions ps ps refl)) ∙
          sym (below_is (position (sites ps) 0 + w) (sites ps))

  pub first_some : Asc ps → 0 < w → 0 < length ps → 0 < e
  first_some asc some item = omega (arith, is_lower, lower_above (p + w) 0 ps asc item (omega arith))

  pub first_in : e ≤ length ps
  first_in = omega (arith, is_lower, lower-le (p + w) ps)

-- ---- the best with the first stop

abbrev begun : Scored → Best
begun x = record { shared = x.score; first = base x.first; last = base x.last }

-- scored again
again : (x : Scored) → x.first ≡ x.last → better (begun x) x ≡ begun x
unfolding better pick
again x e = simp (le-ltb x.score x.score (le_refl x.score), eq-eqb x.score x.score refl)

begun-best : (x : Scored) (xs : List Scored) → x.first ≡ x.last → best_from (begun x) (x ∷ xs) ≡ best (x ∷ xs)
unfolding best_from best
begun-best x xs e = ap (λ (b : Best). best_from b xs) (again x e)

module _ (ps : List ℕ) (w last : ℕ) (t : rules.Stop) where
  abbrev all : ℕ → List rules.Stop
  all fuel = stops_from fuel w last (sites ps) t

  some_stop : (fuel : ℕ) → goes_on last (sites ps) t ≡ true → (ts : List rules.Stop) × (all (suc fuel) ≡ t ∷ ts)
  some_stop fuel g =
      ⊎_elim (λ (m : moves w (sites ps) t ≡ true). (stops_from fuel w last (sites ps) (next_stop w (sites ps) t), stops_on (sites ps) w last fuel t g m))
      (λ (m : moves w (sites ps) t ≡ false). ([], stops_last (sites ps) w last fuel t g m)) (cases (moves w (sites ps) t))

-- no stop is scored
pub whole_none : (ms : List Bool) (ps ns : List ℕ) (w last : ℕ) (t : Stop) → stop_of t ≡ first_stop w (sites ps) → goes_on last (sites ps) (stop_of t) ≡ false
    → Whole ms ps ns w last (record { best = record { shared = 0; first = record { 0 = 0 }; last = record { 0 = 0 } }; windows = 0 })
unfolding best base
whole_none ms ps ns w last t is g =
    let none : stops_of w last ps (first_stop w (sites ps)) ≡ [] = ap (stops_of w last ps) (sym is) ∙ stops_end (sites ps) w last (length ps + length ps) (stop_of t) g in
    record { best = sym (ap (λ (ts : List rules.Stop). best (scored_for ms ns ps ts)) none); windows = sym (ap length none) }

-- the first one is
module _ {ns : List ℕ} {m : MapperLists} {at : Slide} (ms : List Bool) (ps : List ℕ) (w last : ℕ) (t : Stop) (h : Holds ns m at t.b t.e) (parallel : length ns ≡ length ps) (flags : flags_of m.counts.now ≡ ms) where
  pub whole_some : stop_of t ≡ first_stop w (sites ps) → goes_on last (sites ps) (stop_of t) ≡ true → t.p.0 ≡ get_or ps t.b 0
      → {r : Swept} → Over ms ps ns w last (stop_of t) (record { shared = at.shared; first = t.p; last = t.p }) r → Whole ms ps ns w last r
  unfolding base
  whole_some is g p {r} o =
      let x = scored_stop (asked ms) (items_of ns ps) (stop_of t) in
      let scored : x ≡ scored_at at.shared t.p.0 = stop_scored ms ps t h parallel flags ∙ ap (scored_at at.shared) (sym p) in
      let n : length ps + length ps ≡ suc (length ps + length ps - 1) = omega (arith, goes_facts ps last (stop_of t) g) in
      let s = some_stop ps w last (stop_of t) (length ps + length ps - 1) g in
      let is_all : stops_of w last ps (stop_of t) ≡ stop_of t ∷ s.0 = ap (all ps w last (stop_of t)) n ∙ s.1 in
      let to : stops_of w last ps (stop_of t) ≡ stops_of w last ps (first_stop w (sites ps)) = ap (stops_of w last ps) is in
      record {
        best =
            o.best ∙ ap (λ (ts : List rules.Stop). best_from (begun (scored_at at.shared t.p.0)) (scored_for ms ns ps ts)) is_all ∙
            ap (λ (y : Scored). best_from (begun y) (x ∷ scored_for ms ns ps s.0)) (sym scored) ∙
            begun-best x (scored_for ms ns ps s.0) (ap (λ (y : Scored). y.first) scored ∙ sym (ap (λ (y : Scored). y.last) scored)) ∙
            sym (ap (λ (ts : List rules.Stop). best (scored_for ms ns ps ts)) is_all) ∙ ap (λ (ts : List rules.Stop). best (scored_for ms ns ps ts)) to;
        windows = o.windows ∙ ap length to;
      }
