-- What the code of the minimizer sweep needs of the stops, one by one: how the list goes on from a stop, that the fuel never ends it, whatever the
-- positions, since a stop that moves on passes an item with b or with e and neither passes the last, and that the distance table has the best's entry.
-- Assumes nothing.
use Prim.Native.Nat.{ℕ, zero, suc, ◌+◌, ◌≤◌, ◌<◌, min}
use mathlib.Core.Path.{◌≡◌, refl}
use mathlib.Core.Logic.{⊎_elim}
use mathlib.Core.Bool.{Bool, true, false}
use mathlib.Core.List.{List, [], ◌∷◌, map}
use native.Mathlib.Omega.{arith}
use lib.ListN.{length, length-map, get_or-eq_default}
use lib.Dec.{eqb}
use borrow.Author.Tests.{ltb-true, eq-eqb, eqb-true}
use Rattle.base.specs.Pick.{pick}
use Rattle.base.specs.Lists.{All}
use Rattle.std.proofs.lemmas.Bool.{cases_lt}
use Rattle.rules.specs.Sweep.{Sweep, Scored, best}
use Rattle.rules.specs.Minimizer.{Item, Stop, position, to_begin, to_end, first_stop, goes_on, next_stop, moves, stops_from, stops, local_items, score_items, scored_stop, scored_stops}
use Rattle.rules.proofs.Score.{score_most}
use Rattle.rules.proofs.IntervalRounds.{best_most}
use Rattle.rules.proofs.MinimizerPositions.{positions}

module _ (items : List Item) (w range_end : ℕ) where
  pub stops_end : (fuel : ℕ) (t : Stop) → goes_on range_end items t ≡ false → stops_from fuel w range_end items t ≡ []
  unfolding stops_from
  stops_end zero t e = refl
  stops_end (suc fuel) t e = rw (e, stops_from)

  pub stops_last : (fuel : ℕ) (t : Stop) → goes_on range_end items t ≡ true → moves w items t ≡ false → stops_from (suc fuel) w range_end items t ≡ t ∷ []
  unfolding stops_from
  stops_last fuel t e f = rw (e, stops_from) (rw f)

  pub stops_on : (fuel : ℕ) (t : Stop) → goes_on range_end items t ≡ true → moves w items t ≡ true → stops_from (suc fuel) w range_end items t ≡ t ∷ stops_from fuel w range_end items (next_stop w items t)
  unfolding stops_from
  stops_on fuel t e f = rw (e, stops_from) (rw f)

module _ (w : ℕ) (items : List Item) (t : Stop) where
  -- the nearer of the two items is passed
  pub next_further : t.b + t.e < (next_stop w items t).b + (next_stop w items t).e
  unfolding next_stop pick
  next_further =
      let f = to_begin items t in
      let g = to_end w items t in
      ⊎_elim (λ (l : f < g). rw (eq-eqb (min f g) f (omega arith)) (omega arith)) (λ (l : g ≤ f). rw (eq-eqb (min f g) g (omega arith)) (omega arith)) (cases_lt f g)

  -- past the last item lies no position to go to
  begin_inside : 0 < to_begin items t → t.b + 1 < length items
  unfolding to_begin position
  begin_inside h =
      ⊎_elim (λ (l : t.b + 1 < length items). l)
      (λ (l : length items ≤ t.b + 1).
      let k : length (positions items) ≤ t.b + 1 = omega (arith, length-map items (λ (x : Item). x.at)) in
      absurd (omega (arith, get_or-eq_default (positions items) 0 k))) (cases_lt (t.b + 1) (length items))

  next_inside : moves w items t ≡ true → t.b < length items → (next_stop w items t).b < length items
  unfolding moves next_stop pick
  next_inside m l = go (eqb d (to_begin items t)) refl
    where
      d : ℕ
      d = min (to_begin items t) (to_end w items t)

      go : (u : Bool) → eqb d (to_begin items t) ≡ u → t.b + pick u 1 0 < length items
      go true u = begin_inside (omega (arith, eqb-true d (to_begin items t) u, ltb-true 0 d m))
      go false u = omega arith

-- what a loop keeps at the stop t: enough fuel for each item that b and e have yet to pass
pub record Fuelled (items : List Item) (fuel : ℕ) (t : Stop) : Type 0 where
  pub enough : length items + length items ≤ fuel + (t.b + t.e)
  pub inside : t.b < length items

pub fuelled_first : (w fuel : ℕ) (items : List Item) → 0 < length items → length items + length items ≤ fuel → Fuelled items fuel (first_stop w items)
unfolding first_stop
fuelled_first w fuel items h l = record { enough = omega arith; inside = h }

module _ {items : List Item} {fuel : ℕ} {t : Stop} where
  pub fuelled_next : (w : ℕ) → Fuelled items (suc fuel) t → moves w items t ≡ true → Fuelled items fuel (next_stop w items t)
  fuelled_next w f m = record { enough = omega (arith, f.enough, next_further w items t); inside = next_inside w items t m f.inside }

  -- while the sweep goes on there is fuel
  pub fuelled_some : Fuelled items fuel t → t.e < length items → 0 < fuel
  fuelled_some f l = omega (arith, f.enough, f.inside)

-- ---- no score passes the number of query hashes, so the distance table has the entry of the best

stops_most : (query : List ℕ) (items : List Item) (ts : List Stop) → All (λ v. v ≤ length query) (map (λ (x : Scored). x.score) (map (scored_stop query items) ts))
unfolding scored_stop score_items
stops_most query items [] = tt
stops_most query items (t ∷ ts) = (score_most query _, stops_most query items ts)

pub minimizer_most : (s : Sweep) → (best (scored_stops s)).shared ≤ length s.query
unfolding scored_stops
minimizer_most s = best_most (length s.query) (scored_stops s) (stops_most s.query (local_items s) (stops s))
