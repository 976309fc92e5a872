-- A column, unit by unit: what is done and what is left make the whole. Assumes nothing.
use Prim.Native.Nat.{ℕ, ◌+◌, ◌<◌, ◌≤◌}
use mathlib.Core.Path.{◌≡◌, sym, ap, ◌∙◌}
use mathlib.Core.List.{List, [], ◌∷◌, ◌++◌, map}
use native.Mathlib.Omega.{arith}
use lib.ListN.{length, set, length-append, length-map}
use lib.Seq.{append_snoc}
use Rattle.base.specs.Buffers.{over}
use Rattle.base.proofs.Buffers.{length_over, pushed}

-- before a turn: i units are done, of each of which f tells an entry
pub record Filling {A : Type 0} (f : List ℕ → A) (whole left : List (List ℕ)) (entry now : List A) (i : ℕ) : Type 0 where
  pub fits : length whole ≤ length entry
  pub done : List (List ℕ)
  pub many : length done ≡ i
  pub rest : done ++ left ≡ whole
  pub is : now ≡ over (map f done) entry

module _ {A : Type 0} {f : List ℕ → A} {whole : List (List ℕ)} {entry : List A} where
  module _ {left : List (List ℕ)} {now : List A} {i : ℕ} (g : Filling f whole left entry now i) where
    all : i + length left ≡ length whole
    all = omega (arith, ap length g.rest, length-append g.done left, g.many)

    pub filling_length : length now ≡ length entry
    filling_length = ap length g.is ∙ length_over (map f g.done) entry (omega (arith, length-map g.done f, g.many, all, g.fits))

    -- in a turn: a unit was taken, and there is room for what it tells
    module _ (u : List ℕ) (left' : List (List ℕ)) (e : left ≡ u ∷ left') where
      pub filling_room : i < length entry
      filling_room = omega (arith, all, ap length e, g.fits)

      pub filling_step : (v : A) → v ≡ f u → Filling f whole left' entry (set now i v) (i + 1)
      filling_step v is = record {
        fits = g.fits;
        done = g.done ++ (u ∷ []);
        many = omega (arith, length-append g.done (u ∷ []), g.many);
        rest = append_snoc g.done u left' ∙ ap (λ (us : List (List ℕ)). g.done ++ us) (sym e) ∙ g.rest;
        is = ap (λ (w : A). set now i w) is ∙ pushed f g.done u entry now i g.is g.many (omega (arith, filling_room, filling_length));
      }
