-- The admitted starts of the minimizer sweep, stop by stop: each stop's own start and those after it up to the next stop, all with its active items.
-- So no start is lost and none is added: where the sweep ends, no start is admitted any more.
-- Assumes nothing.
use Prim.Native.Nat.{ℕ, zero, suc, ◌+◌, ◌-◌, ◌≤◌, ◌<◌, min}
use mathlib.Core.Path.{◌≡◌, refl, ap, ◌∙◌}
use mathlib.Core.Logic.{⊎_elim}
use mathlib.Core.Bool.{Bool, true, false}
use mathlib.Core.List.{List, [], ◌∷◌, ◌++◌}
use native.Mathlib.Omega.{arith}
use native.Mathlib.Nat.{zero-add, add-zero, suc-add}
use lib.ListN.{length}
use lib.Dec.{ltb}
use borrow.Author.Tests.{lt-ltb, le-ltb, le-leb, lt-leb}
use Rattle.base.specs.Pick.{pick}
use Rattle.base.specs.Lists.{StrictAsc}
use Rattle.std.proofs.lemmas.Bool.{cases_lt}
use Rattle.rules.specs.Lists.{filter, up_from}
use Rattle.rules.specs.Sweep.{Sweep}
use Rattle.rules.specs.Minimizer.{Item, Stop, windows_per_start, local_items, below, first_stop, goes_on, next_stop, stops_from, stops, admitted}
use Rattle.rules.proofs.MinimizerPositions.{positions, below_mono}
use Rattle.rules.proofs.MinimizerSteps.{stops_end, stops_on, Fuelled, fuelled_first, fuelled_next, fuelled_some}
use Rattle.rules.proofs.MinimizerStops.{At, moved, at_first, at_moves, at_ahead, at_still, at_next}

-- for each stop its start and the n numbers after it, at which the active items are the stop's
pub data Covered (items : List Item) (w : ℕ) : List Stop → List ℕ → Type 0 where
  none : Covered items w [] []
  stop : (t : Stop) (n : ℕ) {ts : List Stop} {qs : List ℕ} → ((q : ℕ) → t.p ≤ q → q ≤ t.p + n → At items w (moved t q)) → Covered items w ts qs → Covered items w (t ∷ ts) (up_from t.p (suc n) ++ qs)

-- ---- filters over a stretch of numbers

-- m numbers that pass, then n others
all_pass : (test : ℕ → Bool) (m n p : ℕ) → ((q : ℕ) → p ≤ q → q < p + m → test q ≡ true) → filter test (up_from p (m + n)) ≡ up_from p m ++ filter test (up_from (p + m) n)
unfolding filter up_from pick
all_pass test zero n p h = rw (zero-add, add-zero)
all_pass test (suc m) n p h =
    let e : p + suc m ≡ p + 1 + m = omega arith in
    rw (suc-add, h p (omega arith) (omega arith), e) (ap (λ (qs : List ℕ). p ∷ qs) (all_pass test m n (p + 1) λ q l k. h q (omega arith) (omega arith)))

none_passes : (test : ℕ → Bool) (n p : ℕ) → ((q : ℕ) → p ≤ q → test q ≡ false) → filter test (up_from p n) ≡ []
unfolding filter up_from pick
none_passes test zero p h = refl
none_passes test (suc n) p h = rw (h p (omega arith)) (none_passes test n (p + 1) λ q l. h q (omega arith))

up_same : (a b n : ℕ) → (0 < n → a ≡ b) → up_from a n ≡ up_from b n
unfolding up_from
up_same a b zero h = refl
up_same a b (suc n) h = rw (h (omega arith))

-- ---- the sweep

module _ (items : List Item) (w range_end : ℕ) where
  -- a start with an item at p + w or beyond
  abbrev admits : ℕ → Bool
  admits p = ltb (below (p + w) items) (length items)

  -- the admitted starts from p on
  abbrev starts_from : ℕ → List ℕ
  starts_from p = filter admits (up_from p (range_end + 1 - p))

  -- past the last item the sweep ends, and no start is admitted
  past_items : (fuel : ℕ) (t : Stop) → below (t.p + w) items ≡ t.e → length items ≤ t.e → Covered items w (stops_from fuel w range_end items t) (starts_from t.p)
  unfolding goes_on
  past_items fuel t e h =
      let full : (q : ℕ) → t.p ≤ q → admits q ≡ false = λ q l. le-ltb (below (q + w) items) (length items) (omega (arith, below_mono (t.p + w) (q + w) items (omega arith))) in
      rw (stops_end items w range_end fuel t (rw (le-ltb t.e (length items) h)), none_passes admits (range_end + 1 - t.p) t.p full) none

  module _ (up : StrictAsc (positions items)) (some : 0 < w) where
    module _ (t : Stop) (a : At items w t) (inside : t.e < length items) where
      -- past range end both end
      past_end : (fuel : ℕ) → range_end < t.p → Covered items w (stops_from fuel w range_end items t) (starts_from t.p)
      unfolding goes_on filter up_from
      past_end fuel h =
          let e : range_end + 1 - t.p ≡ 0 = omega arith in
          rw (stops_end items w range_end fuel t (rw (lt-ltb t.e (length items) inside, lt-leb t.p range_end h)), e) none

      module _ (before : t.p ≤ range_end) where
        abbrev next : Stop
        next = next_stop w items t

        -- how many starts follow t up to the next stop or to range end
        abbrev others : ℕ
        others = min (next.p - t.p) (range_end + 1 - t.p) - 1

        constant : (q : ℕ) → t.p ≤ q → q ≤ t.p + others → At items w (moved t q)
        constant q l m = at_still items up w some t a inside q l (omega (arith, at_ahead items up w some t a inside))

        starts_split : starts_from t.p ≡ up_from t.p (suc others) ++ starts_from next.p
        starts_split =
            let ahead = at_ahead items up w some t a inside in
            let rest = range_end + 1 - next.p in
            ap (λ (k : ℕ). filter admits (up_from t.p k)) (omega arith)
            ∙ all_pass admits (suc others) rest t.p (λ q l m. lt-ltb (below (q + w) items) (length items) (omega (arith, (constant q l (omega arith)).end)))
            ∙ ap (λ (qs : List ℕ). up_from t.p (suc others) ++ filter admits qs) (up_same (t.p + suc others) next.p rest λ h. omega arith)

        goes_on_lem : (fuel : ℕ) → Covered items w (stops_from fuel w range_end items next) (starts_from next.p) → Covered items w (stops_from (suc fuel) w range_end items t) (starts_from t.p)
        unfolding goes_on
        goes_on_lem fuel c =
            rw (stops_on items w range_end fuel t (rw (lt-ltb t.e (length items) inside, le-leb t.p range_end before)) (at_moves items up w some t a inside), starts_split)
            (stop t others constant c)

    walk : (fuel : ℕ) (t : Stop) → At items w t → Fuelled items fuel t → Covered items w (stops_from fuel w range_end items t) (starts_from t.p)
    walk zero t a f =
        ⊎_elim (λ (i : t.e < length items). absurd (omega (arith, fuelled_some f i))) (past_items zero t a.end) (cases_lt t.e (length items))
    walk (suc fuel) t a f =
        ⊎_elim (λ (i : t.e < length items).
        ⊎_elim (past_end t a i (suc fuel)) (λ (b : t.p ≤ range_end). goes_on_lem t a i b fuel (walk fuel (next_stop w items t) (at_next items up w some t a i) (fuelled_next w f (at_moves items up w some t a i))))
        (cases_lt range_end t.p))
        (past_items (suc fuel) t a.end) (cases_lt t.e (length items))

-- a start's active items are constant between stops, and the stops and what lies between them are all the admitted starts
pub stops_cover : (s : Sweep) → StrictAsc (positions (local_items s)) → 0 < windows_per_start s → Covered (local_items s) (windows_per_start s) (stops s) (admitted s)
unfolding stops admitted first_stop
stops_cover s up some =
    let items = local_items s in
    let w = windows_per_start s in
    let end = s.range.end in
    ⊎_elim (λ (h : 0 < length items). walk items w end up some _ (first_stop w items) (at_first items up w some h) (fuelled_first w _ items h (omega arith)))
    (λ (h : length items ≤ 0). past_items items w end _ (first_stop w items) refl (omega arith)) (cases_lt 0 (length items))
