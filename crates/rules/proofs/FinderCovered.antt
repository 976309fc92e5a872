-- Covered positions, event by event: from a position to the next, where enough are active, there is a range; events at one position only change the count.
-- A count of 0 may be carried from one contig to the next. Assumes nothing.
use Prim.Native.Nat.{ℕ, ◌+◌, ◌-◌, ◌*◌, ◌/◌, ◌%◌, ◌≤◌, ◌<◌}
use mathlib.Core.Path.{◌≡◌, refl, sym, ap, ◌∙◌}
use mathlib.Core.Logic.{⊎_elim, ◌≢◌}
use mathlib.Core.Bool.{Bool, true, false, and-false}
use mathlib.Core.List.{List, [], ◌∷◌, ◌++◌}
use native.Mathlib.Omega.{arith}
use lib.Dec.{eqb}
use borrow.Author.Tests.{lt-ltb, le-ltb, le-leb, lt-leb, eq-eqb, ne_eqb}
use Rattle.base.specs.Pick.{pick}
use Rattle.std.proofs.lemmas.Bool.{cases_eq, cases_lt}
use Rattle.rules.specs.Finder.{Candidate, key_contig, key_at, active_after, covered_to, covered_from, covered}

-- a start, and an end
pub active_start : (k n : ℕ) → active_after (k * 2 + 1) n ≡ n + 1
unfolding active_after pick
active_start k n = rw (eq-eqb ((k * 2 + 1) % 2) 1 (omega arith))

pub active_end : (k n : ℕ) → active_after (k * 2) n ≡ n - 1
unfolding active_after pick
active_end k n = rw (ne_eqb (k * 2 % 2) 1 (omega arith))

-- a count that is 0 where the contigs differ
same_count : (a b n : ℕ) → (0 < n → a ≡ b) → pick (eqb a b) n 0 ≡ n
unfolding pick
same_count a b n same = ⊎_elim (λ (e : a ≡ b). rw (eq-eqb a b e)) (λ (d : a ≢ b). rw (ne_eqb a b d) (zero_count d)) (cases_eq a b)
  where
    zero_count : a ≢ b → 0 ≡ n
    zero_count d = ⊎_elim (λ (l : 0 < n). absurd (d (same l))) (λ (l : n ≤ 0). omega arith) (cases_lt 0 n)

none : (b : Bool) → pick {A = ℕ} b 0 0 ≡ 0
unfolding pick
none true = refl
none false = refl

module _ (minimum n : ℕ) where
  pub to_below : (key next : ℕ) → n < minimum → covered_to minimum n key next ≡ []
  unfolding covered_to pick
  to_below key next l = rw (lt-leb minimum n l, and-false)

  pub to_covered : (key next : ℕ) → key_contig key ≡ key_contig next → key < next → minimum ≤ n
      → covered_to minimum n key next ≡ record { contig = key_contig key; start = key_at key; end = key_at next - 1 } ∷ []
  unfolding covered_to pick
  to_covered key next e l m = rw (eq-eqb (key_contig key) (key_contig next) e, lt-ltb key next l, le-leb minimum n m)

  to_same : (key : ℕ) → covered_to minimum n key key ≡ []
  unfolding covered_to pick
  to_same key = rw (eq-eqb (key_contig key) (key_contig key) refl, le-ltb key key (omega arith))

  pub covered_none : (key : ℕ) → covered_from minimum n key [] ≡ []
  unfolding covered_from
  covered_none key = refl

  module _ (e : ℕ) (es : List ℕ) where
    -- an event at the position
    pub covered_here : (key : ℕ) → e / 2 ≡ key → covered_from minimum n key (e ∷ es) ≡ covered_from minimum (active_after e n) key es
    unfolding covered_from pick
    covered_here key q = rw (q, to_same key, eq-eqb (key_contig key) (key_contig key) refl)

    -- the next position, in the same contig or where none is active
    pub covered_move : (key next : ℕ) → e / 2 ≡ next → (0 < n → key_contig key ≡ key_contig next)
        → covered_from minimum n key (e ∷ es) ≡ covered_to minimum n key next ++ covered_from minimum n next (e ∷ es)
    unfolding covered_from
    covered_move key next q same =
        ap (λ (p : ℕ). covered_to minimum n key p ++ covered_from minimum (active_after e (pick (eqb (key_contig key) (key_contig p)) n 0)) p es) q ∙
        ap (λ (m : ℕ). covered_to minimum n key next ++ covered_from minimum (active_after e m) next es) (same_count (key_contig key) (key_contig next) n same) ∙
        ap (λ (x : List Candidate). covered_to minimum n key next ++ x) (sym (covered_here next q))

-- before the first event none is active, at any position
pub covered_start : (minimum key : ℕ) (es : List ℕ) → 0 < minimum → covered minimum es ≡ covered_from minimum 0 key es
unfolding covered covered_from
covered_start minimum key [] l = refl
covered_start minimum key (e ∷ es) l =
    sym (ap (λ (x : List Candidate). x ++ covered_from minimum (active_after e (pick (eqb (key_contig key) (key_contig (e / 2))) 0 0)) (e / 2) es) (to_below minimum 0 key (e / 2) l) ∙
    ap (λ (m : ℕ). covered_from minimum (active_after e m) (e / 2) es) (none (eqb (key_contig key) (key_contig (e / 2)))))
