-- What the sweep over numbers and positions means for the call: its stops are the rules' stops, and its scores the rules' scores, of items whose hashes have these
-- numbers among the coordinates. Assumes nothing.
use mathlib.Core.Path.{◌≡◌, refl, sym, ap, ◌∙◌}
use mathlib.Core.Bool.{Bool, true}
use mathlib.Core.List.{List, [], ◌∷◌, map}
use Prim.Native.Nat.{ℕ, ◌+◌, ◌-◌, ◌<◌}
use lib.ListN.{length, take, drop, length-map}
use Rattle.base.specs.Lists.{All, StrictAsc}
use Rattle.base.proofs.Lists.{all_take, all_drop, map-take, map-drop}
use Rattle.rules.specs.Lists.{member}
use Rattle.rules.specs.Score.{number_of, score}
use Rattle.rules.specs.Moves.{marks}
use Rattle.rules.specs.Sweep.{Scored, best}
use Rattle.rules.specs.Minimizer.{Item, Stop, items_of, position, part, score_items, first_stop, stops_from, scored_stop}
use Rattle.rules.proofs.MinimizerPositions.{positions}
use Rattle.rules.proofs.MinimizerLocal.{items_positions, items_hashes, map-part}
use Rattle.sweep.specs.Active.{asked}
use Rattle.sweep.proofs.Numbers.{score_numbers}
use Rattle.minimizer_stops.specs.declared.Swept.{Swept}
use Rattle.minimizer_stops.specs.Stops.{sites, scored_for, stops_of, Whole}
use Rattle.minimizer_stops.proofs.Positions.{same_position, same_first, same_stops}

abbrev hashes : List Item → List ℕ
hashes items = map (λ (x : Item). x.hash) items

module _ (query coords : List ℕ) (items : List Item) (rq : StrictAsc query) (rc : StrictAsc coords) (sub : (h : ℕ) → member h query ≡ true → member h coords ≡ true)
    (inside : All (λ h. member h coords ≡ true) (hashes items)) (some : 0 < length query) where
  abbrev ns : List ℕ
  ns = map (number_of coords) (hashes items)

  abbrev ps : List ℕ
  ps = positions items

  abbrev ms : List Bool
  ms = marks query coords

  parallel : length ns ≡ length ps
  parallel = length-map (hashes items) (number_of coords) ∙ length-map items (λ (x : Item). x.hash) ∙ sym (length-map items (λ (x : Item). x.at))

  same : positions (sites ps) ≡ positions items
  same = items_positions ps ps refl

  score_part : (b e : ℕ) → score_items (asked ms) (part (items_of ns ps) b e) ≡ score_items query (part items b e)
  unfolding score_items
  score_part b e =
      ap (score (asked ms))
      (map-part (λ (x : Item). x.hash) (items_of ns ps) b e ∙ ap (λ (xs : List ℕ). take (e - b) (drop b xs)) (items_hashes ns ps parallel) ∙
      ap (take (e - b)) (sym (map-drop (number_of coords) b (hashes items))) ∙ sym (map-take (number_of coords) (e - b) (drop b (hashes items)))) ∙
      score_numbers query coords (take (e - b) (drop b (hashes items))) rq rc sub (all_take (λ h. member h coords ≡ true) (e - b) (drop b (hashes items)) (all_drop (λ h. member h coords ≡ true) b (hashes items) inside)) some ∙
      sym (ap (score query) (map-part (λ (x : Item). x.hash) items b e))

  position_is : (i : ℕ) → position (items_of ns ps) i ≡ position items i
  unfolding position
  position_is i = same_position 0 0 (items_of ns ps) items (items_positions ns ps parallel) i

  stop_is : (t : Stop) → scored_stop (asked ms) (items_of ns ps) t ≡ scored_stop query items t
  unfolding scored_stop
  stop_is t = λ d. record { score = score_part t.b t.e d; first = position_is t.b d; last = position_is t.b d }

  stops_are : (ts : List Stop) → scored_for ms ns ps ts ≡ map (scored_stop query items) ts
  stops_are [] = refl
  stops_are (t ∷ ts) = ap (λ (x : Scored). x ∷ scored_for ms ns ps ts) (stop_is t) ∙ ap (λ (xs : List Scored). scored_stop query items t ∷ xs) (stops_are ts)

  module _ (w last : ℕ) where
    -- the rules' stops of these items
    abbrev stops : List Stop
    stops = stops_from (length items + length items) w last items (first_stop w items)

    all_stops : stops_of w last ps (first_stop w (sites ps)) ≡ stops
    all_stops =
        ap (λ (n : ℕ). stops_from (n + n) w last (sites ps) (first_stop w (sites ps))) (length-map items (λ (x : Item). x.at)) ∙
        ap (stops_from (length items + length items) w last (sites ps)) (same_first w last (sites ps) items same) ∙
        same_stops w last (sites ps) items same (length items + length items) (first_stop w items)

    pub whole_means : {r : Swept} → Whole ms ps ns w last r → (r.best ≡ best (map (scored_stop query items) stops)) × (r.windows ≡ length stops)
    whole_means o = (o.best ∙ ap best (stops_are (stops_of w last ps (first_stop w (sites ps))) ∙ ap (map (scored_stop query items)) all_stops), o.windows ∙ ap length all_stops)
