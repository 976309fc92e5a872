-- What is seen of the fields before, only the last tag, the mode and the bytes joined under that tag, is all that the next field can ask, since tags ascend; and the
-- rules' reading, case by case. Assumes nothing.
use Prim.Native.Nat.{ℕ, suc, ◌+◌, ◌<◌, ◌≤◌}
use mathlib.Core.Path.{◌≡◌, refl, sym, ap, ◌∙◌, subst}
use mathlib.Core.Logic.{◌≢◌, ⊎_elim}
use mathlib.Core.Bool.{Bool, true, false, ◌&&◌, not}
use mathlib.Core.List.{List, [], ◌∷◌, ◌++◌, flatten}
use native.Mathlib.Omega.{arith}
use borrow.Author.Tests.{eq-eqb, ne_eqb, ltb-false, eqb-true, eqb-false}
use lib.Dec.{eqb}
use lib.ListN.{length, get_or, drop, length-append}
use Rattle.std.specs.Prelude.{Option, Some, None}
use Rattle.base.specs.Pick.{pick}
use Rattle.base.specs.declared.Reason.{Reason}
use Rattle.base.specs.declared.Reason.TheVariants.{JobCut}
use Rattle.std.proofs.lemmas.Bool.{cases_eq}
use Rattle.rules.specs.Lists.{filter}
use Rattle.rules.specs.Script.{last_or}
use Rattle.rules.specs.Job.{FieldRow, single, field_table, Field, joined_data, mode_of, tag_before, misplaced, wrong_value, fault_by, fault_of, field_at, length_at, is_cut, refused_at, after_end, read_from}
use Rattle.job_fields.specs.Mode.{byte_of, mode_at}
use Rattle.job_fields.specs.Table.{rows_with}
use Rattle.job_fields.specs.Judge.{first_of, earlier_of, mode_then, seen_with, fault_in}
use Rattle.job_fields.specs.declared.mode.Mode.TheVariants.{Minimizer}
use Rattle.job_fields.specs.declared.judge.Seen.{Seen}
use Rattle.job_fields.proofs.Picks.{pick_yes, pick_no}
use Rattle.job_fields.proofs.Faults.{Passed, passed}
use Rattle.job_fields.proofs.Heads.{neither}
use Rattle.job_fields.proofs.Fields.{joined_more, joined_kept, before_more}

-- ---- what is seen is all that the rules ask of the fields before

pub earlier_le : (s : Seen) (tag : ℕ) → earlier_of s tag ≤ s.joined
unfolding earlier_of pick
earlier_le s tag = go (eqb tag s.before)
  where
    go : (b : Bool) → pick b s.joined 0 ≤ s.joined
    go true = omega arith
    go false = omega arith

pub record Holds (fields : List Field) (s : Seen) : Type 0 where
  pub last : tag_before fields ≡ s.before
  pub chosen : mode_of fields ≡ byte_of s.mode
  pub many : length (joined_data s.before fields) ≡ s.joined
  pub above : (t : ℕ) → s.before < t → joined_data t fields ≡ []

pub holds_none : Holds [] (record { before = 0; mode = Minimizer; joined = 0 })
unfolding tag_before mode_of joined_data last_or filter flatten
holds_none = record { last = refl; chosen = refl; many = refl; above = λ t h. refl }

-- a tag that is in order is not below the one before, nor the same unless its field repeats
pub in_order : (before : ℕ) (r : FieldRow) → misplaced before r ≡ false → (before ≤ r.tag) × (r.repeats ≡ false → before ≢ r.tag)
unfolding misplaced
in_order before r e =
    let f = neither _ _ (neither _ _ e).0 in
    (ltb-false r.tag before f.0, other f.1)
  where
    other : eqb r.tag before && not r.repeats ≡ false → r.repeats ≡ false → before ≢ r.tag
    other g h k = let z : ◌≡◌ {A = Bool} true false = sym (rw (eq-eqb r.tag before (sym k), h)) ∙ g in absurd (let w : ◌≡◌ {A = ℕ} 0 1 = cc in omega arith)

-- a row that was found has the tag

filter_head : (test : FieldRow → Bool) (xs : List FieldRow) (r : FieldRow) (rs : List FieldRow) → filter test xs ≡ r ∷ rs → test r ≡ true
unfolding filter pick
filter_head test [] r rs e = absurd (let z : ◌≡◌ {A = ℕ} 0 1 = cc in omega arith)
filter_head test (x ∷ xs) r rs e = go (test x) refl e (filter_head test xs r rs)
  where
    go : (b : Bool) → test x ≡ b → pick b (x ∷ []) [] ++ filter test xs ≡ r ∷ rs → (filter test xs ≡ r ∷ rs → test r ≡ true) → test r ≡ true
    go true t e rec = let q : r ≡ x = cc in ap test q ∙ t
    go false t e rec = rec e

pub row_tag : (tag : ℕ) (r : FieldRow) (rs : List FieldRow) → rows_with tag ≡ r ∷ rs → r.tag ≡ tag
unfolding rows_with
row_tag tag r rs e = eqb-true r.tag tag (filter_head (λ (x : FieldRow). eqb x.tag tag) field_table r rs e)

module _ {fields : List Field} {s : Seen} (h : Holds fields s) where
  -- the bytes of the earlier fields with a tag that is in order
  pub earlier_is : (tag : ℕ) → s.before ≤ tag → earlier_of s tag ≡ length (joined_data tag fields)
  unfolding earlier_of
  earlier_is tag l =
      ⊎_elim (λ (e : tag ≡ s.before). pick_yes _ _ _ (eq-eqb tag s.before e) ∙ sym h.many ∙ ap (λ (t : ℕ). length (joined_data t fields)) (sym e))
      (λ (e : tag ≢ s.before). pick_no _ _ _ (ne_eqb tag s.before e) ∙ sym (ap length (h.above tag (omega arith))))
      (cases_eq tag s.before)

  -- so the fault is the rules'
  fault_by_lem : (rows : List FieldRow) (f : Field) → ((r : FieldRow) (rs : List FieldRow) → rows ≡ r ∷ rs → r.tag ≡ f.tag)
      → fault_in rows s f ≡ fault_by rows s.before (byte_of s.mode) (length (joined_data f.tag fields)) f.tag (first_of f) (length f.bytes)
  unfolding fault_in fault_by
  fault_by_lem [] f is = refl
  fault_by_lem (r ∷ rs) f is = go (misplaced s.before r) refl
    where
      by : ℕ → Option Reason
      by earlier = fault_by (r ∷ rs) s.before (byte_of s.mode) earlier f.tag (first_of f) (length f.bytes)

      go : (b : Bool) → misplaced s.before r ≡ b → by (earlier_of s f.tag) ≡ by (length (joined_data f.tag fields))
      go true e = pick_yes _ _ _ e ∙ sym (pick_yes _ _ _ e)
      go false e =
          let at : r.tag ≡ f.tag = is r rs refl in
          ap by (earlier_is f.tag (omega (arith, (in_order s.before r e).0)))

  pub fault_is : (f : Field) → fault_in (rows_with f.tag) s f ≡ fault_of fields f
  unfolding fault_of rows_with
  fault_is f =
      fault_by_lem (rows_with f.tag) f (row_tag f.tag) ∙
      ap (λ (k : ℕ). fault_by (rows_with f.tag) k (byte_of s.mode) (length (joined_data f.tag fields)) f.tag (first_of f) (length f.bytes)) (sym h.last) ∙
      ap (λ (k : ℕ). fault_by (rows_with f.tag) (tag_before fields) k (length (joined_data f.tag fields)) f.tag (first_of f) (length f.bytes)) (sym h.chosen)

-- the row of 02 does not repeat
mode_row : (r : FieldRow) (rs : List FieldRow) → rows_with 2 ≡ r ∷ rs → r.repeats ≡ false
unfolding rows_with filter field_table pick
mode_row r rs e = let q : r ≡ single 2 1 = cc in ap (λ (x : FieldRow). x.repeats) q

byte_is : (n : ℕ) → n ≤ 1 → n ≡ byte_of (mode_at n)
unfolding mode_at pick
byte_is n h =
    ⊎_elim (λ (e : n ≡ 0). subst (λ (k : ℕ). k ≡ byte_of (mode_at k)) (sym e) refl)
    (λ (e : n ≢ 0). let one : n ≡ 1 = omega arith in subst (λ (k : ℕ). k ≡ byte_of (mode_at k)) (sym one) refl)
    (cases_eq n 0)

-- a field more, in which nothing is wrong
module _ {fields : List Field} {s : Seen} (h : Holds fields s) (f : Field) (none : fault_of fields f ≡ None) where
  row_passed : Passed (rows_with f.tag) (tag_before fields) (mode_of fields) (length (joined_data f.tag fields)) f.tag (first_of f) (length f.bytes)
  unfolding fault_of rows_with
  row_passed = passed (rows_with f.tag) (tag_before fields) (mode_of fields) (length (joined_data f.tag fields)) f.tag (first_of f) (length f.bytes) none

  -- a mode that was read is one of the two
  mode_is : f.tag ≡ 2 → first_of f ≡ byte_of (mode_at (first_of f))
  unfolding wrong_value
  mode_is e = byte_is (first_of f) (ltb-false 1 (first_of f) (rw e at row_passed.right))

  low_tag : (s.before ≤ f.tag) × (f.tag ≡ 2 → s.before < 2)
  low_tag =
      let p = row_passed in
      let is : p.row.tag ≡ f.tag = row_tag f.tag p.row p.others p.found in
      let o = in_order (tag_before fields) p.row p.placed in
      (omega (arith, o.0, is, h.last), λ e. omega (arith, o.0, is, h.last, o.1 (mode_row p.row p.others (ap rows_with (sym e) ∙ p.found))))

  many_more : length (joined_data f.tag (fields ++ (f ∷ []))) ≡ earlier_of s f.tag + length f.bytes
  many_more =
      let more = ap length (joined_more f.tag f fields refl) ∙ length-append (joined_data f.tag fields) f.bytes in
      omega (arith, more, earlier_is h f.tag low_tag.0)

  above_more : (t : ℕ) → f.tag < t → joined_data t (fields ++ (f ∷ [])) ≡ []
  above_more t l =
      let ne : f.tag ≢ t = λ e. omega arith in
      joined_kept t f fields ne ∙ h.above t (omega (arith, low_tag.0))

  chosen_more : (b : Bool) → eqb f.tag 2 ≡ b → mode_of (fields ++ (f ∷ [])) ≡ byte_of (pick b (mode_at (first_of f)) s.mode)
  unfolding mode_of pick
  chosen_more true e =
      let two : f.tag ≡ 2 = eqb-true f.tag 2 e in
      ap (λ (l : List ℕ). get_or l 0 0) (joined_more 2 f fields two ∙ ap (λ (l : List ℕ). l ++ f.bytes) (h.above 2 (low_tag.1 two))) ∙ mode_is two
  chosen_more false e = ap (λ (l : List ℕ). get_or l 0 0) (joined_kept 2 f fields (eqb-false f.tag 2 e)) ∙ h.chosen

  pub holds_more : Holds (fields ++ (f ∷ [])) (seen_with s f)
  unfolding seen_with mode_then
  holds_more = record { last = before_more fields f; chosen = chosen_more (eqb f.tag 2) refl; many = many_more; above = above_more }

-- ---- the rules' reading, case by case

module _ (fuel at : ℕ) (seen : List Field) (bytes : List ℕ) where
  pub reads_cut : is_cut bytes ≡ true → read_from (suc fuel) at seen bytes ≡ refused_at JobCut at
  unfolding read_from
  reads_cut e = rw (e, read_from)

  module _ (cut : is_cut bytes ≡ false) where
    pub reads_fault : (why : Reason) → fault_of seen (field_at bytes) ≡ Some why → read_from (suc fuel) at seen bytes ≡ refused_at why at
    unfolding read_from
    reads_fault why e = rw (cut, read_from) (rw e)

    module _ (none : fault_of seen (field_at bytes) ≡ None) where
      pub reads_end : (field_at bytes).tag ≡ 255
          → read_from (suc fuel) at seen bytes ≡ after_end (at + (3 + length_at bytes)) (seen ++ (field_at bytes ∷ [])) (drop (3 + length_at bytes) bytes)
      unfolding read_from
      reads_end e = rw (cut, read_from) (rw none (rw (eq-eqb (field_at bytes).tag 255 e)))

      pub reads_on : (field_at bytes).tag ≢ 255
          → read_from (suc fuel) at seen bytes ≡ read_from fuel (at + (3 + length_at bytes)) (seen ++ (field_at bytes ∷ [])) (drop (3 + length_at bytes) bytes)
      unfolding read_from
      reads_on e = rw (cut, read_from) (rw none (rw (ne_eqb (field_at bytes).tag 255 e)))
