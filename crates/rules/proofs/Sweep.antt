-- The best of a list is the best of its runs: neighbours of one score count as one that goes from the first's first to the last's last.
-- It holds because an equal score leaves `first` and takes `last`.
-- Assumes nothing.
use Prim.Native.Nat.{ℕ, zero, suc, ◌+◌, ◌≤◌}
use mathlib.Core.Path.{◌≡◌, refl, ap, ◌∙◌}
use mathlib.Core.Bool.{Bool, true, false}
use mathlib.Core.List.{List, [], ◌∷◌, ◌++◌, map}
use native.Mathlib.Omega.{arith}
use native.Mathlib.Nat.{le_refl, add-zero, add-suc, suc-add}
use native.Mathlib.Numerals.{add-one}
use lib.Dec.{ltb, eqb}
use borrow.Author.Tests.{le-ltb, eq-eqb}
use Rattle.base.specs.Pick.{pick}
use Rattle.base.specs.declared.Best.{Best}
use Rattle.rules.specs.Lists.{up_from}
use Rattle.rules.specs.Sweep.{Scored, base, better, best_from, best}

abbrev pub scored : ℕ → ℕ → ℕ → Scored
scored s f l = record { score = s; first = f; last = l }

-- neighbours of the score s, from the first's first f to the last's last l
pub data Run (s : ℕ) : ℕ → ℕ → List Scored → Type 0 where
  one : (f l : ℕ) → Run s f l (scored s f l ∷ [])
  more : (f m : ℕ) {g l : ℕ} {zs : List Scored} → Run s g l zs → Run s f l (scored s f m ∷ zs)

-- the second list has a run for each element of the first
pub data Runs : List Scored → List Scored → Type 0 where
  none : Runs [] []
  join : (x : Scored) {xs zs ys : List Scored} → Run x.score x.first x.last zs → Runs xs ys → Runs (x ∷ xs) (zs ++ ys)

abbrev begun : Scored → Best
begun x = record { shared = x.score; first = base x.first; last = base x.last }

better-begun : (s f m g l : ℕ) → better (begun (scored s f m)) (scored s g l) ≡ begun (scored s f l)
unfolding better pick
better-begun s f m g l = simp (le-ltb s s (le_refl s), eq-eqb s s refl)

better_again : (b : Best) (s f m g l : ℕ) → better (better b (scored s f m)) (scored s g l) ≡ better b (scored s f l)
unfolding better pick
better_again b s f m g l = go (ltb b.shared s) refl (eqb b.shared s) refl
  where
    go : (t : Bool) → ltb b.shared s ≡ t → (u : Bool) → eqb b.shared s ≡ u → better (better b (scored s f m)) (scored s g l) ≡ better b (scored s f l)
    go true e u d = simp (e, le-ltb s s (le_refl s), eq-eqb s s refl)
    go false e true d = simp (e, d)
    go false e false d = simp (e, d)

from_append : (b : Best) (xs ys : List Scored) → best_from b (xs ++ ys) ≡ best_from (best_from b xs) ys
unfolding best_from
from_append b [] ys = refl
from_append b (x ∷ xs) ys = from_append (better b x) xs ys

run_from : {s : ℕ} (b : Best) {f l : ℕ} {zs : List Scored} → Run s f l zs → best_from b zs ≡ better b (scored s f l)
unfolding best_from
run_from b (one f l) = refl
run_from {s} b (more f m {g} {l} r) = run_from (better b (scored s f m)) r ∙ better_again b s f m g l

run_best : {s f l : ℕ} {zs : List Scored} → Run s f l zs → (ys : List Scored) → best (zs ++ ys) ≡ best_from (begun (scored s f l)) ys
unfolding best best_from
run_best (one f l) ys = refl
run_best {s} (more f m {g} {l} {zs} r) ys =
    from_append (begun (scored s f m)) zs ys ∙ ap (λ (b : Best). best_from b ys) (run_from (begun (scored s f m)) r ∙ better-begun s f m g l)

runs_from : (b : Best) {xs ys : List Scored} → Runs xs ys → best_from b ys ≡ best_from b xs
unfolding best_from
runs_from b none = refl
runs_from b (join x {zs = zs} {ys = ys} r rs) =
    from_append b zs ys ∙ ap (λ (c : Best). best_from c ys) (run_from b r) ∙ runs_from (better b x) rs

pub runs_best : {xs ys : List Scored} → Runs xs ys → best ys ≡ best xs
unfolding best
runs_best none = refl
runs_best (join x {ys = ys} r rs) = run_best r ys ∙ runs_from (begun x) rs

-- the numbers p to p + n, each scored s and recorded for its mark, make a run
pub run_up : (score : ℕ → Scored) (mark : ℕ → ℕ) (s n p : ℕ) → ((q : ℕ) → p ≤ q → q ≤ p + n → score q ≡ scored s (mark q) (mark q)) → Run s (mark p) (mark (p + n)) (map score (up_from p (suc n)))
unfolding up_from
run_up score mark s zero p h = rw (h p (le_refl p) (omega arith), add-zero p) (one (mark p) (mark p))
run_up score mark s (suc n) p h =
    rw (h p (le_refl p) (omega arith), add-suc p n, ← suc-add p n, ← add-one p)
    (more (mark p) (mark p) (run_up score mark s n (p + 1) λ q l m. h q (omega arith) (omega arith)))
