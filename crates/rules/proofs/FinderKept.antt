-- The kept hits, group by group: a group that is kept gives its hits, any other gives none, and the next begins where it ends. So the seed hits are the
-- number of kept hits, where there are hits for all groups. Assumes nothing.
use Prim.Native.Nat.{ℕ, zero, suc, ◌+◌, ◌≤◌, ◌<◌}
use mathlib.Core.Path.{◌≡◌, refl, sym, ap, ◌∙◌}
use mathlib.Core.Bool.{Bool, true, false}
use mathlib.Core.List.{List, [], ◌∷◌, ◌++◌, map, map-append}
use native.Mathlib.Nat.{not-suc-le-zero}
use native.Mathlib.Numerals.{add-one}
use native.Mathlib.Omega.{arith}
use lib.Dec.{ltb}
use lib.ListN.{length, take, drop, get_or, length-append, length-drop, drop_of_length-le, take-append-drop}
use lib.Seq.{drop-cons, drop-drop, length-take-le}
use borrow.Author.Tests.{lt-ltb, le-ltb}
use Rattle.base.specs.Lists.{All}
use Rattle.base.specs.Pick.{pick}
use Rattle.base.proofs.Lists.{map-take, map-drop}
use Rattle.rules.specs.Lists.{filter, sum}
use Rattle.rules.specs.Finder.{kept, key_of, keys_of}

-- the keys, by the index
pub keys_length : (cs ps : List ℕ) → length cs ≡ length ps → length (keys_of cs ps) ≡ length cs
unfolding keys_of
keys_length [] ps e = refl
keys_length (c ∷ cs) [] e = absurd (omega arith)
keys_length (c ∷ cs) (p ∷ ps) e = ap suc (keys_length cs ps (omega arith))

pub keys_at : (cs ps : List ℕ) (i : ℕ) → length cs ≡ length ps → i < length cs → get_or (keys_of cs ps) i 0 ≡ key_of (get_or cs i 0) (get_or ps i 0)
unfolding keys_of
keys_at [] ps i e l = absurd (not-suc-le-zero l)
keys_at (c ∷ cs) [] i e l = absurd (omega arith)
keys_at (c ∷ cs) (p ∷ ps) zero e l = refl
keys_at (c ∷ cs) (p ∷ ps) (suc i) e l = keys_at cs ps i (omega arith) (omega arith)

-- the sum of the groups from g on
pub sum_next : (gs : List ℕ) (g : ℕ) → g < length gs → sum (drop g gs) ≡ get_or gs g 0 + sum (drop (g + 1) gs)
unfolding sum
sum_next gs g l = rw (drop-cons gs g 0, add-one)

-- the hits of the groups from g on, which begin at `at`
abbrev pub kept_from : {A : Type 0} → ℕ → List ℕ → List A → ℕ → ℕ → List A
kept_from threshold groups hits g at = kept threshold (drop g groups) (drop at hits)

module _ {A : Type 0} (threshold : ℕ) (groups : List ℕ) (hits : List A) (g at : ℕ) where
  module _ (l : g < length groups) where
    pub kept_keep : get_or groups g 0 < threshold
        → kept_from threshold groups hits g at ≡ take (get_or groups g 0) (drop at hits) ++ kept_from threshold groups hits (g + 1) (at + get_or groups g 0)
    unfolding kept pick
    kept_keep h = rw (drop-cons groups g 0, lt-ltb (get_or groups g 0) threshold h, add-one, drop-drop (get_or groups g 0) at hits)

    pub kept_pass : threshold ≤ get_or groups g 0 → kept_from threshold groups hits g at ≡ kept_from threshold groups hits (g + 1) (at + get_or groups g 0)
    unfolding kept pick
    kept_pass h = rw (drop-cons groups g 0, le-ltb (get_or groups g 0) threshold h, add-one, drop-drop (get_or groups g 0) at hits)

  pub kept_end : length groups ≤ g → kept_from threshold groups hits g at ≡ []
  unfolding kept
  kept_end l = rw (drop_of_length-le groups l)

-- how many hits are kept
pub kept-length : {A : Type 0} (threshold : ℕ) (groups : List ℕ) (hits : List A) → sum groups ≤ length hits
    → length (kept threshold groups hits) ≡ sum (filter (λ g. ltb g threshold) groups)
unfolding kept filter sum pick
kept-length threshold [] hits h = refl
kept-length {A} threshold (g ∷ gs) hits h = one (ltb g threshold) (kept-length threshold gs (drop g hits) (omega (arith, length-drop g hits)))
  where
    one : (t : Bool) → length (kept threshold gs (drop g hits)) ≡ sum (filter (λ g. ltb g threshold) gs)
        → length (pick {A = List A} t (take g hits) [] ++ kept threshold gs (drop g hits)) ≡ sum (pick {A = List ℕ} t (g ∷ []) [] ++ filter (λ g. ltb g threshold) gs)
    one true e = omega (arith, length-append (take g hits) (kept threshold gs (drop g hits)), length-take-le g hits (omega arith))
    one false e = e

-- where each group is shorter than the threshold, all hits are kept
pub kept_all : {A : Type 0} (threshold : ℕ) (groups : List ℕ) (hits : List A) → All (λ g. g < threshold) groups → sum groups ≡ length hits → kept threshold groups hits ≡ hits
unfolding kept sum pick
kept_all threshold [] [] short e = refl
kept_all threshold [] (h ∷ hits) short e = absurd (omega arith)
kept_all {A} threshold (g ∷ gs) hits short e =
    rw (lt-ltb g threshold short.0)
    (ap (λ (l : List A). take g hits ++ l) (kept_all threshold gs (drop g hits) short.1 (omega (arith, length-drop g hits))) ∙ take-append-drop g hits)

-- hits as something else are kept alike
pub kept_map : {A B : Type 0} (f : A → B) (threshold : ℕ) (groups : List ℕ) (hits : List A) → kept threshold groups (map f hits) ≡ map f (kept threshold groups hits)
unfolding kept pick
kept_map f threshold [] hits = refl
kept_map {A} {B} f threshold (g ∷ gs) hits =
    ap (λ (l : List B). pick (ltb g threshold) (take g (map f hits)) [] ++ l) (ap (kept threshold gs) (sym (map-drop f g hits)) ∙ kept_map f threshold gs (drop g hits)) ∙ one (ltb g threshold)
  where
    one : (t : Bool) → pick t (take g (map f hits)) [] ++ map f (kept threshold gs (drop g hits)) ≡ map f (pick t (take g hits) [] ++ kept threshold gs (drop g hits))
    one true = ap (λ (l : List B). l ++ map f (kept threshold gs (drop g hits))) (sym (map-take f g hits)) ∙ sym (map-append f (take g hits) (kept threshold gs (drop g hits)))
    one false = refl
