-- Items at the same positions have the same stops, whatever their hashes, since a stop looks at positions alone. Assumes nothing.
use mathlib.Core.Path.{◌≡◌, refl, sym, ap, ◌∙◌}
use mathlib.Core.Logic.{⊎_elim}
use mathlib.Core.Bool.{true, false, ◌&&◌}
use mathlib.Core.List.{List, ◌∷◌}
use Prim.Native.Nat.{ℕ, zero, suc, ◌+◌, ◌-◌}
use lib.Dec.{ltb, leb}
use lib.ListN.{length, get_or, length-map}
use Rattle.rules.specs.Minimizer.{Item, Stop, position, first_stop, below, goes_on, to_begin, to_end, next_stop, moves, stops_from}
use Rattle.rules.proofs.Score.{cases}
use Rattle.rules.proofs.MinimizerPositions.{positions, lower, below_is}
use Rattle.rules.proofs.MinimizerSteps.{stops_end, stops_last, stops_on}

module _ (w last : ℕ) (xs ys : List Item) (same : positions xs ≡ positions ys) where
  pub same_length : length xs ≡ length ys
  same_length = sym (length-map xs (λ (x : Item). x.at)) ∙ ap length same ∙ length-map ys (λ (x : Item). x.at)

  pub same_position : (i : ℕ) → position xs i ≡ position ys i
  unfolding position
  same_position i = ap (λ (ps : List ℕ). get_or ps i 0) same

  same_goes : (t : Stop) → goes_on last xs t ≡ goes_on last ys t
  unfolding goes_on
  same_goes t = ap (λ (n : ℕ). ltb t.e n && leb t.p last) same_length

  same_begin : (t : Stop) → to_begin xs t ≡ to_begin ys t
  unfolding to_begin
  same_begin t = ap (λ (n : ℕ). n - t.p) (same_position (t.b + 1))

  same_end : (t : Stop) → to_end w xs t ≡ to_end w ys t
  unfolding to_end
  same_end t = ap (λ (n : ℕ). n + 1 - (t.p + w)) (same_position t.e)

  same_next : (t : Stop) → next_stop w xs t ≡ next_stop w ys t
  unfolding next_stop
  same_next t = rw (same_begin t, same_end t)

  same_moves : (t : Stop) → moves w xs t ≡ moves w ys t
  unfolding moves
  same_moves t = rw (same_begin t, same_end t)

  pub same_first : first_stop w xs ≡ first_stop w ys
  unfolding first_stop
  same_first = λ d. record { b = 0; e = ends d; p = same_position 0 d }
    where
      ends : below (position xs 0 + w) xs ≡ below (position ys 0 + w) ys
      ends =
          below_is (position xs 0 + w) xs ∙ ap (lower (position xs 0 + w)) same ∙ ap (λ (p : ℕ). lower (p + w) (positions ys)) (same_position 0) ∙
          sym (below_is (position ys 0 + w) ys)

  pub same_stops : (fuel : ℕ) (t : Stop) → stops_from fuel w last xs t ≡ stops_from fuel w last ys t
  unfolding stops_from
  same_stops zero t = refl
  same_stops (suc fuel) t =
      ⊎_elim (λ (g : goes_on last xs t ≡ true).
      let g' = sym (same_goes t) ∙ g in
      ⊎_elim (λ (m : moves w xs t ≡ true).
      stops_on xs w last fuel t g m ∙ ap (λ (u : Stop). t ∷ stops_from fuel w last xs u) (same_next t) ∙ ap (λ (ts : List Stop). t ∷ ts) (same_stops fuel (next_stop w ys t)) ∙
      sym (stops_on ys w last fuel t g' (sym (same_moves t) ∙ m)))
      (λ (m : moves w xs t ≡ false). stops_last xs w last fuel t g m ∙ sym (stops_last ys w last fuel t g' (sym (same_moves t) ∙ m))) (cases (moves w xs t)))
      (λ (g : goes_on last xs t ≡ false). stops_end xs w last (suc fuel) t g ∙ sym (stops_end ys w last (suc fuel) t (sym (same_goes t) ∙ g))) (cases (goes_on last xs t))
