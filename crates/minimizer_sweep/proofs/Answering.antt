-- The answer for one range: an early none where the rules have one, else the place of the best, which has its entry in the table and fits its fields, since no score
-- passes the number of query hashes and what is recorded are positions. Assumes nothing.
use mathlib.Core.Path.{◌≡◌, refl, sym, ap, ◌∙◌}
use mathlib.Core.Logic.{⊎_elim}
use mathlib.Core.Bool.{Bool, true, false}
use mathlib.Core.List.{List, [], ◌∷◌, map}
use Prim.Native.Nat.{ℕ, ◌+◌, ◌-◌, ◌^◌, ◌≤◌, ◌<◌}
use native.Mathlib.Omega.{arith}
use lib.Dec.{ltb, eqb}
use lib.Ieee.{Float}
use lib.ListN.{length, get_or, take, drop, length-take, get_or-eq_default}
use lib.Seq.{get_or-take, get_or-drop}
use Rattle.base.specs.Pick.{pick}
use Rattle.base.specs.declared.Best.{Best}
use Rattle.base.specs.declared.Range.{Range}
use Rattle.base.specs.declared.Settings.{Settings}
use Rattle.base.specs.declared.Stats.{Stats}
use Rattle.base.specs.Answers.{SweepAnswer, nothing}
use Rattle.std.proofs.lemmas.Bool.{cases_lt}
use Rattle.rules.specs.Sweep.{Sweep, base, better, best_from, best}
use Rattle.rules.specs.Minimizer.{Item, Stop, windows_per_start, is_local, local_items, position, scored_stop, stops, scored_stops}
use Rattle.rules.specs.Place.{settled, settled_in, no_stats, minimizer_early, minimizer_stats, minimizer_from, minimizer_answer}
use Rattle.rules.proofs.MinimizerLocal.{local_from, local_to, local_positions}
use Rattle.rules.proofs.MinimizerSteps.{minimizer_most}
use Rattle.sweep.specs.Work.{Fits}
use Rattle.sweep.specs.declared.Found.{Found}
use Rattle.minimizer_work.specs.Given.{sweep_of, search_of}
use Rattle.minimizer_work.specs.Work.{Ready, Done, Late}
use Rattle.minimizer_sweep.specs.Given.{Covers}

-- ---- what is recorded are positions, which fit

module _ (limit : ℕ) (some : 0 < limit) where
  abbrev Near : Best → Type 0
  Near b = (b.first.0 < limit) × (b.last.0 < limit)

  pick_near : (t : Bool) (a b : Best) → Near a → Near b → Near (pick t a b)
  unfolding pick
  pick_near true a b m n = m
  pick_near false a b m n = n

  module _ (query : List ℕ) (items : List Item) (low : (i : ℕ) → position items i < limit) where
    near_from : (ts : List Stop) (b : Best) → Near b → Near (best_from b (map (scored_stop query items) ts))
    unfolding best_from better scored_stop base
    near_from [] b n = n
    near_from (t ∷ ts) b n =
        let x = scored_stop query items t in
        near_from ts (better b x)
        (pick_near (ltb b.shared x.score) _ _ (low t.b, low t.b) (pick_near (eqb b.shared x.score) _ _ (n.0, low t.b) n))

    near_best : (ts : List Stop) → Near (best (map (scored_stop query items) ts))
    unfolding best scored_stop base
    near_best [] = (some, some)
    near_best (t ∷ ts) = near_from ts _ (low t.b, low t.b)

  part_near : (xs : List ℕ) → ((i : ℕ) → get_or xs i 0 < limit) → (n b i : ℕ) → get_or (take n (drop b xs)) i 0 < limit
  part_near xs low n b i =
      ⊎_elim (λ (l : i < n). let e : get_or (take n (drop b xs)) i 0 ≡ get_or xs (b + i) 0 = get_or-take n (drop b xs) i 0 l ∙ get_or-drop b xs i 0 in omega (arith, low (b + i)))
      (λ (l : n ≤ i). let e : get_or (take n (drop b xs)) i 0 ≡ 0 = get_or-eq_default (take n (drop b xs)) 0 (omega (arith, length-take n (drop b xs))) in omega arith) (cases_lt i n)

-- ---- the answer from what was found

module _ (settings : Settings) (window : ℕ) (range : Range) (query hashes starts : List ℕ) where
  abbrev search : Sweep
  search = search_of query hashes starts settings window range

  module _ (identities uppers : List Float) (minimum : Float) where
    abbrev asked : Sweep
    asked = sweep_of settings window range query hashes starts identities uppers minimum

    same_stops : scored_stops asked ≡ scored_stops search
    unfolding scored_stops stops local_items is_local windows_per_start
    same_stops = refl

    same_stats : minimizer_stats asked ≡ minimizer_stats search
    unfolding minimizer_stats stops local_items is_local windows_per_start
    same_stats = refl

    same_early : minimizer_early asked ≡ minimizer_early search
    unfolding minimizer_early local_items is_local windows_per_start
    same_early = refl

    -- settled before coordinates are built
    pub early_answer : minimizer_early search ≡ true → nothing no_stats ≡ minimizer_answer asked
    unfolding minimizer_answer minimizer_from pick
    early_answer e = rw (same_early, e)

    module _ {r : Found} (l : Late search r) where
      abbrev d : Done search r
      d = l.done

      pub found_answer : {x : SweepAnswer} → x ≡ pick (eqb r.best.shared 0) (nothing r.stats) (settled settings.length (length query) identities uppers minimum r.stats r.best)
          → x ≡ minimizer_answer asked
      unfolding minimizer_answer minimizer_from settled_in pick
      found_answer e =
          e ∙
          ap (λ (z : Stats). pick (eqb r.best.shared 0) (nothing z) (settled settings.length (length query) identities uppers minimum z r.best)) (d.stats ∙ sym same_stats) ∙
          ap (λ (b : Best). pick (eqb b.shared 0) (nothing (minimizer_stats asked)) (settled settings.length (length query) identities uppers minimum (minimizer_stats asked) b))
          (d.best ∙ ap best (sym same_stops)) ∙
          ap (λ (z : Bool). pick z (nothing no_stats) (pick (eqb (best (scored_stops asked)).shared 0) (nothing (minimizer_stats asked)) (settled_in asked (minimizer_stats asked) (best (scored_stops asked)))))
          (sym (same_early ∙ l.late))

      pub found_fits : Ready query hashes starts → Covers (length query) identities uppers → ((i : ℕ) → get_or starts i 0 < 2 ^ 32) → Fits settings.length (length query) identities uppers r.best
      unfolding windows_per_start scored_stops position
      found_fits ready table low =
          let most : r.best.shared ≤ length query = rw d.best (minimizer_most search) in
          let at : (i : ℕ) → position (local_items search) i < 2 ^ 32 = λ i.
          rw (local_positions search ready.parallel ready.starts_asc) (part_near (2 ^ 32) (omega arith) starts low (local_to search - local_from search) (local_from search) i) in
          let near : Near (2 ^ 32) (omega arith) r.best = rw d.best (near_best (2 ^ 32) (omega arith) query (local_items search) at (stops search)) in
          record {
            some = omega (arith, l.windows);
            small = omega (arith, ready.few_hashes);
            identity = omega (arith, most, table.identity);
            upper = omega (arith, most, table.upper);
            first = near.0;
            last = near.1;
          }
