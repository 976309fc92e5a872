-- The checks of both finders: the verdict is the first refusal in number order, and a fine one tells that the hits passed each test. Assumes nothing.
use Prim.Native.Nat.{ℕ, ◌+◌}
use mathlib.Core.Path.{◌≡◌, refl, sym, ap, ◌∙◌}
use mathlib.Core.Bool.{Bool, true, false, not, ◌||◌}
use mathlib.Core.List.{List, [], ◌∷◌}
use borrow.Author.Tests.{eq-eqb}
use lib.Dec.{eqb}
use lib.ListN.{length}
use Rattle.std.specs.Prelude.{sum, Err}
use Rattle.std.proofs.lemmas.List.Sums.{sum_by-cons}
use Rattle.base.specs.Pick.{pick}
use Rattle.base.specs.Verdicts.{Verdict, Fine, or_else}
use Rattle.base.proofs.Verdicts.{or_fine}
use Rattle.base.specs.declared.Refusal.{Refusal}
use Rattle.rules.specs.Lists as rules
use Rattle.rules.specs.Accepted.{FinderAccepted, FinderFits}
use Rattle.rules.specs.Calls.{FinderLent, finder_room_of}
use Rattle.rules.specs.Finder.{Finder}
use Rattle.rules.specs.Refusals.{minimizer_finder_verdict}
use Rattle.rules.proofs.Accepted.{minimizer_finder_accepted, finder_fits}
use Rattle.rules.specs.Checks.{minimizer_finder_input, minimizer_finder_sizes, minimizer_finder_lengths, interval_finder_sizes, interval_finder_lengths, finder_needs, end_keys_need}
use Rattle.candidate_window.specs.Given.{verdict_of}

-- the library's sum is the rules' own
pub sum_same : (xs : List ℕ) → sum xs ≡ rules.sum xs
unfolding rules.sum
sum_same [] = refl
sum_same (x ∷ xs) = sum_by-cons (λ n. n) x xs ∙ ap (λ (n : ℕ). x + n) (sum_same xs)

-- ---- a chain of choices as one

pick_or : {A : Type 0} (a b : Bool) (x y : A) → pick (a || b) x y ≡ pick a x (pick b x y)
unfolding pick
pick_or true b x y = refl
pick_or false b x y = refl

pick_not : {A : Type 0} (a : Bool) (x y : A) → pick (not a) x y ≡ pick a y x
unfolding pick
pick_not true x y = refl
pick_not false x y = refl

or_pick : (t : Bool) (r : Refusal) (v w : Verdict) → or_else (pick t (Err r) v) w ≡ pick t (Err r) (or_else v w)
unfolding pick or_else
or_pick true r v w = refl
or_pick false r v w = refl

or_pick_not : (t : Bool) (r : Refusal) (v w : Verdict) → or_else (pick t v (Err r)) w ≡ pick t (or_else v w) (Err r)
unfolding pick or_else
or_pick_not true r v w = refl
or_pick_not false r v w = refl

or_no : (b : Bool) → (b || false) ≡ b
or_no true = refl
or_no false = refl

eqb_same : (n : ℕ) → eqb n n ≡ true
eqb_same n = eq-eqb n n refl

pick_true : {A : Type 0} (x y : A) → pick true x y ≡ x
unfolding pick
pick_true x y = refl

-- of the minimizer finder's two lists, and of the interval finder's three
module _ (groups : List ℕ) (hits : ℕ) where
  minimizer_is : (positions minimum keys contigs starts ends : ℕ) → verdict_of groups hits (hits ∷ positions ∷ []) minimum (keys ∷ contigs ∷ starts ∷ ends ∷ [])
      ≡ or_else (or_else (minimizer_finder_sizes hits positions (length groups) minimum) (minimizer_finder_lengths hits positions (rules.sum groups))) (finder_needs hits keys contigs starts ends)
  unfolding verdict_of or_else
  minimizer_is positions minimum keys contigs starts ends = simp (eqb_same, or_no, pick_or, pick_not, pick_true, or_pick, or_pick_not)

  pub interval_is : (low high minimum keys end_keys contigs starts ends : ℕ) → verdict_of groups hits (hits ∷ low ∷ high ∷ []) minimum (keys ∷ contigs ∷ starts ∷ ends ∷ end_keys ∷ [])
      ≡ or_else (or_else (interval_finder_sizes hits low high (length groups) minimum) (interval_finder_lengths hits low high (rules.sum groups)))
      (or_else (finder_needs hits keys contigs starts ends) (end_keys_need hits end_keys))
  unfolding verdict_of or_else
  interval_is low high minimum keys end_keys contigs starts ends = simp (eqb_same, or_no, pick_or, pick_not, pick_true, or_pick, or_pick_not)

-- ---- a fine verdict of the minimizer finder

-- what the hits and the lent lists then are
pub record Passed (f : Finder) (b : FinderLent) : Type 0 where
  pub accepted : FinderAccepted f.contigs f.starts f.groups f.minimum
  pub fits : FinderFits (length f.contigs) (length b.keys) (length b.contigs) (length b.starts) (length b.ends)

module _ (f : Finder) (b : FinderLent) where
  abbrev verdict : Verdict
  verdict = verdict_of f.groups (length f.contigs) (length f.contigs ∷ length f.starts ∷ []) f.minimum (length b.keys ∷ length b.contigs ∷ length b.starts ∷ length b.ends ∷ [])

  pub verdict_is : verdict ≡ minimizer_finder_verdict f (finder_room_of b)
  unfolding minimizer_finder_verdict minimizer_finder_input finder_room_of
  verdict_is = minimizer_is f.groups (length f.contigs) (length f.starts) f.minimum (length b.keys) (length b.contigs) (length b.starts) (length b.ends)

  pub passed : Fine ≡ verdict → Passed f b
  unfolding minimizer_finder_verdict finder_room_of
  passed e =
      let v = or_fine _ _ (sym (e ∙ verdict_is)) in
      record {
        accepted = minimizer_finder_accepted f.contigs f.starts f.groups f.minimum v.0;
        fits = finder_fits (length f.contigs) (length b.keys) (length b.contigs) (length b.starts) (length b.ends) v.1;
      }
