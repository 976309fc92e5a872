-- The data of all fields with a tag, where a field more is read: it is appended where the tag is the field's. Assumes nothing.
use Prim.Native.Nat.{ℕ}
use mathlib.Core.Path.{◌≡◌, refl, sym, ap, ◌∙◌}
use mathlib.Core.Logic.{◌≢◌}
use mathlib.Core.Bool.{Bool, true, false}
use mathlib.Core.List.{List, [], ◌∷◌, ◌++◌, map, flatten, append-nil, append_assoc}
use borrow.Author.Tests.{eq-eqb, ne_eqb}
use lib.Dec.{eqb}
use Rattle.base.specs.Pick.{pick}
use Rattle.rules.specs.Lists.{filter}
use Rattle.rules.specs.Script.{last_or}
use Rattle.rules.specs.Job.{Field, joined_data, tag_before}
use Rattle.job_fields.proofs.Picks.{pick_yes, pick_no}

pub joined_none : (t : ℕ) → joined_data t [] ≡ []
unfolding joined_data filter flatten
joined_none t = refl

pub joined_cons : (t : ℕ) (f : Field) (fs : List Field) → joined_data t (f ∷ fs) ≡ pick (eqb f.tag t) f.bytes [] ++ joined_data t fs
unfolding joined_data filter flatten pick
joined_cons t f fs = go (eqb f.tag t)
  where
    go : (b : Bool) → flatten (map (λ (x : Field). x.bytes) (pick b (f ∷ []) [] ++ filter (λ (x : Field). eqb x.tag t) fs))
        ≡ pick b f.bytes [] ++ flatten (map (λ (x : Field). x.bytes) (filter (λ (x : Field). eqb x.tag t) fs))
    go true = refl
    go false = refl

pub joined_append : (t : ℕ) (a b : List Field) → joined_data t (a ++ b) ≡ joined_data t a ++ joined_data t b
joined_append t [] b = ap (λ (l : List ℕ). l ++ joined_data t b) (sym (joined_none t))
joined_append t (f ∷ fs) b =
    joined_cons t f (fs ++ b) ∙ ap (λ (l : List ℕ). pick (eqb f.tag t) f.bytes [] ++ l) (joined_append t fs b) ∙
    sym (append_assoc (pick (eqb f.tag t) f.bytes []) (joined_data t fs) (joined_data t b)) ∙
    ap (λ (l : List ℕ). l ++ joined_data t b) (sym (joined_cons t f fs))

module _ (t : ℕ) (f : Field) where
  pub joined_here : (fs : List Field) → f.tag ≡ t → joined_data t (f ∷ fs) ≡ f.bytes ++ joined_data t fs
  joined_here fs e = joined_cons t f fs ∙ ap (λ (l : List ℕ). l ++ joined_data t fs) (pick_yes _ _ _ (eq-eqb f.tag t e))

  pub joined_past : (fs : List Field) → f.tag ≢ t → joined_data t (f ∷ fs) ≡ joined_data t fs
  joined_past fs e = joined_cons t f fs ∙ ap (λ (l : List ℕ). l ++ joined_data t fs) (pick_no _ _ _ (ne_eqb f.tag t e))

  pub joined_more : (fs : List Field) → f.tag ≡ t → joined_data t (fs ++ (f ∷ [])) ≡ joined_data t fs ++ f.bytes
  joined_more fs e =
      joined_append t fs (f ∷ []) ∙
      ap (λ (l : List ℕ). joined_data t fs ++ l) (joined_here [] e ∙ ap (λ (l : List ℕ). f.bytes ++ l) (joined_none t) ∙ append-nil f.bytes)

  pub joined_kept : (fs : List Field) → f.tag ≢ t → joined_data t (fs ++ (f ∷ [])) ≡ joined_data t fs
  joined_kept fs e =
      joined_append t fs (f ∷ []) ∙ ap (λ (l : List ℕ). joined_data t fs ++ l) (joined_past [] e ∙ joined_none t) ∙ append-nil (joined_data t fs)

last_tag : (d : ℕ) (fs : List Field) (f : Field) → last_or d (map (λ (x : Field). x.tag) (fs ++ (f ∷ []))) ≡ f.tag
unfolding last_or
last_tag d [] f = refl
last_tag d (x ∷ fs) f = last_tag x.tag fs f

pub before_more : (fs : List Field) (f : Field) → tag_before (fs ++ (f ∷ [])) ≡ f.tag
unfolding tag_before
before_more fs f = last_tag 0 fs f
