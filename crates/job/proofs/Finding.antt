-- The units of a tag from a place of the job on: those in the data of the field that was met last, those of the next field, and none where the fields end. Assumes nothing.
use Prim.Native.Nat.{ℕ, zero, suc, ◌+◌, ◌-◌, ◌<◌, ◌≤◌}
use mathlib.Core.Path.{◌≡◌, refl, sym, ap, ◌∙◌}
use mathlib.Core.Logic.{◌≢◌}
use mathlib.Core.Bool.{Bool, true, false}
use mathlib.Core.List.{List, [], ◌∷◌, ◌++◌}
use native.Mathlib.Omega.{arith}
use borrow.Author.Tests.{eq-eqb, ne_eqb}
use lib.Dec.{eqb}
use lib.ListN.{length, take, drop, length-drop}
use lib.Seq.{drop-drop}
use Rattle.std.specs.Prelude.{Some, None}
use Rattle.base.specs.Pick.{pick}
use Rattle.rules.specs.Job.{Field, field_at, length_at, is_cut, units}
use Rattle.job_fields.specs.Reader.{next_field, taken_of}
use Rattle.job_fields.proofs.Picks.{pick_yes, pick_no}
use Rattle.job_fields.proofs.Heads.{cut_header, whole_field, is_none, is_some, taken_is}
use Rattle.job.specs.Units.{fields_of, fields_in, units_in}
use Rattle.job.proofs.UnitLists.{units_none, units-cons}

-- ---- the fields

fields_of_cut : (fuel : ℕ) (bytes : List ℕ) → is_cut bytes ≡ true → fields_of fuel bytes ≡ []
unfolding fields_of
fields_of_cut zero bytes e = refl
fields_of_cut (suc fuel) bytes e = pick_yes _ _ _ e

-- more fuel than bytes changes nothing
fields_same : (a b : ℕ) (bytes : List ℕ) → length bytes ≤ a → length bytes ≤ b → fields_of a bytes ≡ fields_of b bytes
unfolding fields_of
fields_same zero b bytes h l = sym (fields_of_cut b bytes (cut_header bytes (omega arith)))
fields_same (suc a) zero bytes h l = fields_of_cut (suc a) bytes (cut_header bytes (omega arith))
fields_same (suc a) (suc b) bytes h l = go (is_cut bytes) refl (λ x y. fields_same a b (drop (3 + length_at bytes) bytes) x y)
  where
    go : (c : Bool) → is_cut bytes ≡ c
        → (length (drop (3 + length_at bytes) bytes) ≤ a → length (drop (3 + length_at bytes) bytes) ≤ b → fields_of a (drop (3 + length_at bytes) bytes) ≡ fields_of b (drop (3 + length_at bytes) bytes))
        → fields_of (suc a) bytes ≡ fields_of (suc b) bytes
    go true e rec = pick_yes _ _ _ e ∙ sym (pick_yes _ _ _ e)
    go false e rec =
        let short = length-drop (3 + length_at bytes) bytes in
        ap (λ (fs : List Field). pick (is_cut bytes) [] (field_at bytes ∷ fs)) (rec (omega arith) (omega arith))

pub fields_cut : (bytes : List ℕ) → is_cut bytes ≡ true → fields_in bytes ≡ []
unfolding fields_in
fields_cut bytes e = fields_of_cut (length bytes) bytes e

pub fields_next : (bytes : List ℕ) → is_cut bytes ≡ false → fields_in bytes ≡ field_at bytes ∷ fields_in (drop (3 + length_at bytes) bytes)
unfolding fields_in fields_of
fields_next bytes e =
    let short = length-drop (3 + length_at bytes) bytes in
    let rest = drop (3 + length_at bytes) bytes in
    fields_same (length bytes) (suc (length bytes)) bytes (omega arith) (omega arith) ∙ pick_no _ _ _ e ∙
    ap (λ (fs : List Field). field_at bytes ∷ fs) (fields_same (length bytes) (length rest) rest (omega arith) (omega arith))

-- ---- the units

module _ (n tag : ℕ) (some : 0 < n) where
  -- none is left in the data
  pub units_spent : (left bytes : List ℕ) → length left < n → units n left ++ units_in n tag (fields_in bytes) ≡ units_in n tag (fields_in bytes)
  units_spent left bytes h = ap (λ (us : List (List ℕ)). us ++ units_in n tag (fields_in bytes)) (units_none n some left h)

  -- the first of some
  pub units_taken : (left bytes unit rest : List ℕ) → n ≤ length left → unit ≡ take n left → rest ≡ drop n left
      → units n left ++ units_in n tag (fields_in bytes) ≡ unit ∷ (units n rest ++ units_in n tag (fields_in bytes))
  units_taken left bytes unit rest h u r =
      ap (λ (us : List (List ℕ)). us ++ units_in n tag (fields_in bytes)) (units-cons n some left h) ∙ ap (λ (x : List ℕ). x ∷ (units n (drop n left) ++ units_in n tag (fields_in bytes))) (sym u) ∙
      ap (λ (x : List ℕ). unit ∷ (units n x ++ units_in n tag (fields_in bytes))) (sym r)

  -- no field more
  pub units_end : (bytes : List ℕ) → None ≡ next_field bytes → units_in n tag (fields_in bytes) ≡ []
  unfolding units_in
  units_end bytes e = ap (units_in n tag) (fields_cut bytes (is_none bytes e))

  -- a field more: its units, then those behind it
  module _ (bytes : List ℕ) (f : Field) (e : Some f ≡ next_field bytes) where
    by_field : units_in n tag (fields_in bytes) ≡ pick (eqb f.tag tag) (units n f.bytes) [] ++ units_in n tag (fields_in (drop (taken_of bytes) bytes))
    unfolding units_in
    by_field =
        let is = is_some bytes f e in
        let behind = λ (k : ℕ). units_in n tag (fields_in (drop k bytes)) in
        ap (units_in n tag) (fields_next bytes is.0) ∙ ap (λ (x : Field). pick (eqb x.tag tag) (units n x.bytes) [] ++ behind (3 + length_at bytes)) (sym is.1) ∙
        ap (λ (k : ℕ). pick (eqb f.tag tag) (units n f.bytes) [] ++ behind k) (sym (taken_is bytes is.0))

    pub units_here : f.tag ≡ tag → units_in n tag (fields_in bytes) ≡ units n f.bytes ++ units_in n tag (fields_in (drop (taken_of bytes) bytes))
    units_here t = by_field ∙ ap (λ (us : List (List ℕ)). us ++ units_in n tag (fields_in (drop (taken_of bytes) bytes))) (pick_yes _ _ _ (eq-eqb f.tag tag t))

    pub units_past : f.tag ≢ tag → units_in n tag (fields_in bytes) ≡ units_in n tag (fields_in (drop (taken_of bytes) bytes))
    units_past t = by_field ∙ ap (λ (us : List (List ℕ)). us ++ units_in n tag (fields_in (drop (taken_of bytes) bytes))) (pick_no _ _ _ (ne_eqb f.tag tag t))

-- ---- the reader over a job

-- at its front all are left
pub all_left : (n tag : ℕ) → 0 < n → (job read_job : List ℕ) (at : ℕ) → read_job ≡ job → at ≡ 0 → units n [] ++ units_in n tag (fields_in (drop at read_job)) ≡ units_in n tag (fields_in job)
all_left n tag some job read_job at same front =
    units_spent n tag some [] (drop at read_job) some ∙ ap (λ (k : ℕ). units_in n tag (fields_in (drop k read_job))) front ∙ ap (λ (l : List ℕ). units_in n tag (fields_in l)) same

module _ (n tag : ℕ) (some : 0 < n) (left job read_job : List ℕ) (at next : ℕ) (spent : length left < n) where
  -- what is left behind the data
  abbrev behind : List (List ℕ)
  behind = units_in n tag (fields_in (drop at job))

  pub none_left : None ≡ next_field (drop at job) → units n left ++ behind ≡ []
  none_left e = units_spent n tag some left (drop at job) spent ∙ units_end n tag some (drop at job) e

  module _ (f : Field) (e : Some f ≡ next_field (drop at job)) (same : read_job ≡ job) (on : next ≡ at + taken_of (drop at job)) where
    moved : drop (taken_of (drop at job)) (drop at job) ≡ drop next read_job
    moved = drop-drop (taken_of (drop at job)) at job ∙ ap (λ (k : ℕ). drop k job) (sym on) ∙ ap (drop next) (sym same)

    pub left_here : f.tag ≡ tag → units n f.bytes ++ units_in n tag (fields_in (drop next read_job)) ≡ units n left ++ behind
    left_here t =
        sym (units_spent n tag some left (drop at job) spent ∙ units_here n tag some (drop at job) f e t ∙ ap (λ (l : List ℕ). units n f.bytes ++ units_in n tag (fields_in l)) moved)

    pub left_past : f.tag ≢ tag → units n left ++ units_in n tag (fields_in (drop next read_job)) ≡ units n left ++ behind
    left_past t =
        units_spent n tag some left (drop next read_job) spent ∙
        sym (units_spent n tag some left (drop at job) spent ∙ units_past n tag some (drop at job) f e t ∙ ap (λ (l : List ℕ). units_in n tag (fields_in l)) moved)

    pub field_on : length read_job - next < length job - at
    field_on =
        let is = is_some (drop at job) f e in
        omega (arith, taken_is (drop at job) is.0, whole_field (drop at job) is.0, length-drop at job, ap length same, on)
