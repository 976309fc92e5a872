-- The loop over the stops: the best so far with the stops to come is the best of all, and so are their numbers. A stop's score is the mapper's shared count,
-- since its items are the active ones. Assumes nothing.
use mathlib.Core.Path.{◌≡◌, refl, sym, ap, ◌∙◌, subst}
use mathlib.Core.Bool.{Bool, true, false}
use mathlib.Core.List.{List, [], ◌∷◌}
use Prim.Native.Nat.{ℕ, suc, ◌+◌, ◌-◌, ◌^◌, ◌≤◌, ◌<◌}
use native.Mathlib.Omega.{arith}
use lib.ListN.{length, get_or, take, drop}
use Rattle.base.specs.declared.Best.{Best}
use Rattle.rules.specs.Score.{score}
use Rattle.rules.specs.Sweep.{Scored, better, best_from}
use Rattle.rules.specs.Minimizer.{Item, items_of, position, part, score_items, scored_stop, goes_on, moves, next_stop, stops_from}
use Rattle.rules.specs.Minimizer as rules
use Rattle.rules.proofs.MinimizerLocal.{items_positions, items_hashes, map-part}
use Rattle.rules.proofs.MinimizerSteps.{stops_end, stops_last, stops_on, Fuelled, fuelled_next, fuelled_some}
use Rattle.base.specs.declared.Slide.{Slide}
use Rattle.slide_mapper.specs.State.{flags_of}
use Rattle.sweep.specs.Active.{asked}
use Rattle.sweep.proofs.Active.{active_score}
use Rattle.minimizer_stops.specs.declared.Stop.{Stop}
use Rattle.minimizer_stops.specs.Stops.{sites, stop_of, scored_at, scored_for, stops_of, Room, Holds, Start, Over, Kept}
use Rattle.minimizer_stops.proofs.Moving.{site_length, goes_facts, moves_on, further, next_order}
use Rattle.slide_mapper.specs.declared.lists.MapperLists.{MapperLists}
use Rattle.minimizer_stops.proofs.Holding.{kept_on, kept_none}

-- a stop, scored
module _ {ns : List ℕ} {m : MapperLists} {at : Slide} (ms : List Bool) (ps : List ℕ) (t : Stop) (h : Holds ns m at t.b t.e) (same : length ns ≡ length ps) (flags : flags_of m.counts.now ≡ ms) where
  score_at : score_items (asked ms) (part (items_of ns ps) t.b t.e) ≡ at.shared
  unfolding score_items
  score_at =
      ap (score (asked ms)) (map-part (λ (x : Item). x.hash) (items_of ns ps) t.b t.e ∙ ap (λ (xs : List ℕ). take (t.e - t.b) (drop t.b xs)) (items_hashes ns ps same)) ∙
      ap (λ (fs : List Bool). score (asked fs) (take (t.e - t.b) (drop t.b ns))) (sym flags) ∙ sym (active_score h.active)

  position_at : position (items_of ns ps) t.b ≡ get_or ps t.b 0
  unfolding position
  position_at = ap (λ (xs : List ℕ). get_or xs t.b 0) (items_positions ns ps same)

  pub stop_scored : scored_stop (asked ms) (items_of ns ps) (stop_of t) ≡ scored_at at.shared (get_or ps t.b 0)
  unfolding scored_stop
  stop_scored = λ d. record { score = score_at d; first = position_at d; last = position_at d }

-- the loop at the stop t, with the best b of `windows` stops
pub record Running (ps ns : List ℕ) (w last : ℕ) (m₀ : MapperLists) (from : Stop) (first : Best) (m : MapperLists) (at : Slide) (t : Stop) (b : Best) (windows : ℕ) : Type 0 where
  pub start : Start ps ns w m at t
  pub kept : Kept m₀ m
  pub fuel : ℕ
  pub fuelled : Fuelled (sites ps) fuel (stop_of t)
  pub best : best_from b (scored_for (flags_of m₀.counts.now) ns ps (stops_from fuel w last (sites ps) (stop_of t))) ≡ best_from first (scored_for (flags_of m₀.counts.now) ns ps (stops_of w last ps (stop_of from)))
  pub count : windows + length (stops_from fuel w last (sites ps) (stop_of t)) ≡ length (stops_of w last ps (stop_of from))
  pub few : windows ≤ t.b + t.e

pub running_start : {ps ns : List ℕ} {w : ℕ} (last : ℕ) {m : MapperLists} {at : Slide} {from : Stop} (first : Best) → Start ps ns w m at from → Running ps ns w last m from first m at from first 0
running_start {ps} {ns} {w} last {m = m} {from = from} first s = record {
  start = s;
  kept = kept_none m;
  fuel = length ps + length ps;
  fuelled = record { enough = omega (arith, site_length ps); inside = omega (arith, site_length ps, s.order, s.holds.inside, s.parallel) };
  best = refl;
  count = omega arith;
  few = omega arith;
}

module _ {ps ns : List ℕ} {w last : ℕ} {m₀ : MapperLists} {from : Stop} {first : Best} {m : MapperLists} {at : Slide} {t : Stop} {b : Best} {windows : ℕ}
    (r : Running ps ns w last m₀ from first m at t b windows) where
  abbrev ms : List Bool
  ms = flags_of m₀.counts.now

  abbrev rest : ℕ → rules.Stop → List rules.Stop
  rest fuel u = stops_from fuel w last (sites ps) u

  pub running_end : goes_on last (sites ps) (stop_of t) ≡ false → Over ms ps ns w last (stop_of from) first (record { best = b; windows = windows })
  unfolding best_from
  running_end g =
      let none = stops_end (sites ps) w last r.fuel (stop_of t) g in
      record {
        best = sym (ap (λ (ts : List rules.Stop). best_from b (scored_for ms ns ps ts)) none) ∙ r.best;
        windows = omega (arith, r.count, ap length none);
      }

  module _ (g : goes_on last (sites ps) (stop_of t) ≡ true) where
    pub running_room : last < 2 ^ 32 → Room ps w t
    running_room l =
        let f = goes_facts ps last (stop_of t) g in
        record { order = r.start.order; inside = f.0; near = omega arith; small = r.start.small }

    pub running_at : t.b < length ps
    running_at = omega (arith, goes_facts ps last (stop_of t) g, r.start.order)

    pub running_few : windows + 1 < 2 ^ 64
    running_few = omega (arith, r.few, goes_facts ps last (stop_of t) g, r.start.order, r.start.parallel, r.start.holds.few)

    -- the fuel that is left after this stop
    abbrev left : ℕ
    left = r.fuel - 1

    more : r.fuel ≡ suc left
    more = omega (arith, fuelled_some r.fuelled (omega (arith, goes_facts ps last (stop_of t) g, site_length ps)))

    abbrev b' : Best
    b' = better b (scored_at at.shared (get_or ps t.b 0))

    -- the code's best, for the position that it read
    pub scored_as : (x : Best) (q : ℕ) → q ≡ get_or ps t.b 0 → x ≡ better b (scored_at at.shared q) → x ≡ b'
    scored_as x q e f = f ∙ ap (λ (p : ℕ). better b (scored_at at.shared p)) e

    -- this stop first, then the others
    scored_first : (ts : List rules.Stop) → rest r.fuel (stop_of t) ≡ stop_of t ∷ ts → best_from b' (scored_for ms ns ps ts) ≡ best_from first (scored_for ms ns ps (stops_of w last ps (stop_of from)))
    unfolding best_from
    scored_first ts e =
        ap (λ (x : Scored). best_from (better b x) (scored_for ms ns ps ts)) (sym (stop_scored ms ps t r.start.holds r.start.parallel r.kept.query)) ∙
        sym (ap (λ (us : List rules.Stop). best_from b (scored_for ms ns ps us)) e) ∙ r.best

    pub running_last : (x : Best) → x ≡ b' → moves w (sites ps) (stop_of t) ≡ false → Over ms ps ns w last (stop_of from) first (record { best = x; windows = windows + 1 })
    unfolding best_from
    running_last x d v =
        let one = ap (λ (f : ℕ). rest f (stop_of t)) more ∙ stops_last (sites ps) w last left (stop_of t) g v in
        record { best = d ∙ scored_first [] one; windows = omega (arith, r.count, ap length one) }

    pub running_next : (x : Best) → x ≡ b' → (u : Stop) → stop_of u ≡ next_stop w (sites ps) (stop_of t) → t.p.0 < u.p.0 → {n : MapperLists} {at' : Slide} → Holds ns n at' u.b u.e
        → Kept m n → Running ps ns w last m₀ from first n at' u x (windows + 1)
    running_next x d u is on h k =
        let v = moves_on ps w (stop_of t) (stop_of u) is on in
        let all = ap (λ (n : ℕ). rest n (stop_of t)) more ∙ stops_on (sites ps) w last left (stop_of t) g v ∙ ap (λ (y : rules.Stop). stop_of t ∷ rest left y) (sym is) in
        let inside = (goes_facts ps last (stop_of t) g).0 in
        let o = next_order ps w (stop_of t) (stop_of u) is r.start.asc r.start.some r.start.order inside on in
        let fuelled : Fuelled (sites ps) left (stop_of u) =
        subst (λ (y : rules.Stop). Fuelled (sites ps) left y) (sym is) (fuelled_next w (subst (λ (n : ℕ). Fuelled (sites ps) n (stop_of t)) more r.fuelled) v) in
        record {
          start = record { holds = h; parallel = r.start.parallel; asc = r.start.asc; some = r.start.some; small = r.start.small; order = o };
          kept = kept_on r.kept k;
          fuel = left;
          fuelled = fuelled;
          best = ap (λ (y : Best). best_from y (scored_for ms ns ps (rest left (stop_of u)))) d ∙ scored_first (rest left (stop_of u)) all;
          count = omega (arith, r.count, ap length all);
          few = omega (arith, r.few, further ps w (stop_of t) (stop_of u) is);
        }
