-- Where the rules' reading is whole, its fields are those from the front of the bytes, each with the length of its row and joined within the row's limit. The
-- mode in force at a field is the mode at the end: 02 comes before every tag whose size depends on it. Assumes nothing.
use Prim.Native.Nat.{ℕ, zero, suc, ◌+◌, ◌*◌, ◌/◌, ◌%◌, ◌<◌, ◌≤◌}
use mathlib.Core.Path.{◌≡◌, refl, sym, ap, ◌∙◌, subst}
use mathlib.Core.Logic.{◌≢◌, ⊎_elim}
use mathlib.Core.Bool.{Bool, true, false}
use mathlib.Core.List.{List, [], ◌∷◌, ◌++◌}
use native.Mathlib.Nat.{add-mod, zero-mod, mod_self, div-mul-le_self, mul-le-mul_right, suc-mul}
use native.Mathlib.Omega.{arith}
use borrow.Author.Tests.{eq-eqb, ne_eqb, ltb-false, eqb-true, eqb-false}
use lib.Dec.{ltb, eqb}
use lib.ListN.{length, get_or, drop, length-append}
use lib.Seq.{append_snoc}
use Rattle.std.specs.Prelude.{Option, Some, None}
use Rattle.base.specs.Pick.{pick}
use Rattle.base.specs.declared.Reason.{Reason}
use Rattle.base.specs.declared.Reason.TheVariants.{JobTooLong}
use Rattle.std.proofs.lemmas.Bool.{cases_eq, cases_lt}
use Rattle.rules.specs.Lists.{filter}
use Rattle.rules.specs.Limits.{job_limit}
use Rattle.rules.specs.Job.{FieldRow, single, optional, several, joining, field_table, Field, joined_data, mode_of, tag_before, unit_of, fits, too_many, fault_of, field_at, length_at, is_cut, refused_at, whole, after_end, read_from, read, units}
use Rattle.job_fields.specs.Table.{rows_with}
use Rattle.job.specs.Units.{fields_in, units_in, column_of, Each, Joined, item_unit, Accepted}
use Rattle.job_fields.proofs.Picks.{pick_yes, pick_no}
use Rattle.job_fields.proofs.Faults.{Passed, passed}
use Rattle.job_fields.proofs.Fields.{joined_none, joined_here, joined_past, joined_more, joined_kept, before_more}
use Rattle.job_fields.proofs.Heads.{cut_header}
use Rattle.job_fields.proofs.Steps.{in_order, row_tag, reads_cut, reads_fault, reads_end, reads_on}
use Rattle.job.proofs.UnitLists.{units_none, units-append, units_count}
use Rattle.job.proofs.Finding.{fields_cut, fields_next}

-- ---- of each field

each_map : (P Q : Field → Type 0) → ((f : Field) → P f → Q f) → (fs : List Field) → Each P fs → Each Q fs
each_map P Q g [] e = tt
each_map P Q g (f ∷ fs) e = (g f e.0, each_map P Q g fs e.1)

each_more : (P : Field → Type 0) (fs : List Field) (f : Field) → Each P fs → P f → Each P (fs ++ (f ∷ []))
each_more P [] f e p = (p, tt)
each_more P (x ∷ fs) f e p = (e.0, each_more P fs f e.1 p)

joined_absent : (t : ℕ) (fs : List Field) → Each (λ f. f.tag ≢ t) fs → joined_data t fs ≡ []
joined_absent t [] e = joined_none t
joined_absent t (f ∷ fs) e = joined_past t f fs e.0 ∙ joined_absent t fs e.1

-- ---- a row's fields so far

abbrev Fitting : ℕ → FieldRow → Field → Type 0
Fitting mode row f = f.tag ≡ row.tag → fits mode row (length f.bytes) ≡ true

pub record Sound (row : FieldRow) (seen : List Field) : Type 0 where
  pub fitting : Each (Fitting (mode_of seen) row) seen
  pub within : length (joined_data row.tag seen) ≤ row.limit * unit_of (mode_of seen) row
  pub low : Each (λ f. f.tag ≤ tag_before seen) seen

module _ (row : FieldRow) (is_row : rows_with row.tag ≡ row ∷ []) (late : 2 < row.tag) where
  sound_none : Sound row []
  sound_none = record { fitting = tt; within = omega (arith, ap length (joined_none row.tag)); low = tt }

  module _ (seen : List Field) (f : Field) (s : Sound row seen) (none : fault_of seen f ≡ None) where
    abbrev all : List Field
    all = seen ++ (f ∷ [])

    tested : Passed (rows_with f.tag) (tag_before seen) (mode_of seen) (length (joined_data f.tag seen)) f.tag (get_or f.bytes 0 0) (length f.bytes)
    unfolding fault_of rows_with
    tested = passed (rows_with f.tag) (tag_before seen) (mode_of seen) (length (joined_data f.tag seen)) f.tag (get_or f.bytes 0 0) (length f.bytes) none

    ordered : tag_before seen ≤ f.tag
    ordered = omega (arith, (in_order (tag_before seen) tested.row tested.placed).0, row_tag f.tag tested.row tested.others tested.found)

    lower : Each (λ x. x.tag ≤ tag_before all) all
    lower =
        let last = before_more seen f in
        each_more (λ x. x.tag ≤ tag_before all) seen f (each_map (λ x. x.tag ≤ tag_before seen) (λ x. x.tag ≤ tag_before all) (λ x l. omega (arith, l, ordered, last)) seen s.low) (omega (arith, last))

    same_mode : f.tag ≢ 2 → mode_of all ≡ mode_of seen
    unfolding mode_of
    same_mode n = ap (λ (l : List ℕ). get_or l 0 0) (joined_kept 2 f seen n)

    -- a field of the row
    sound_here : f.tag ≡ row.tag → Sound row all
    unfolding too_many
    sound_here e =
        let mode = same_mode (λ t. omega arith) in
        let same : tested.row ≡ row = (let q = sym tested.found ∙ ap rows_with e ∙ is_row in cc) in
        let fit : fits (mode_of seen) row (length f.bytes) ≡ true = ap (λ (r : FieldRow). fits (mode_of seen) r (length f.bytes)) (sym same) ∙ tested.fitting in
        let few : row.limit * unit_of (mode_of seen) row < length (joined_data f.tag seen) + length f.bytes → ⊥ =
        λ l. omega (
          arith,
          l,
          ltb-false (tested.row.limit * unit_of (mode_of seen) tested.row) (length (joined_data f.tag seen) + length f.bytes) tested.within,
          ap (λ (r : FieldRow). r.limit * unit_of (mode_of seen) r) same,
        ) in
        let more = ap length (joined_more row.tag f seen e) ∙ length-append (joined_data row.tag seen) f.bytes in
        let count = ap (λ (t : ℕ). length (joined_data t seen)) e in
        record {
          fitting = subst (λ (m : ℕ). Each (Fitting m row) all) (sym mode) (each_more (Fitting (mode_of seen) row) seen f s.fitting (λ x. fit));
          within = subst (λ (m : ℕ). length (joined_data row.tag all) ≤ row.limit * unit_of m row) (sym mode) (⊎_elim (λ l. absurd (few (omega (arith, l, more, count)))) (λ l. l) (cases_lt (row.limit * unit_of (mode_of seen) row) (length (joined_data row.tag all))));
          low = lower;
        }

    -- 02, before which no field of the row stood
    sound_mode : f.tag ≡ 2 → Sound row all
    sound_mode e =
        record {
          fitting = each_map (λ x. x.tag ≤ tag_before all) (Fitting (mode_of all) row) (λ x l t. absurd (omega (arith, l, t, before_more seen f))) all lower;
          within = omega (arith, ap length (joined_absent row.tag all (each_map (λ x. x.tag ≤ tag_before all) (λ x. x.tag ≢ row.tag) (λ x l t. omega (arith, l, t, before_more seen f)) all lower)));
          low = lower;
        }

    -- any other
    sound_other : f.tag ≢ row.tag → f.tag ≢ 2 → Sound row all
    sound_other n m =
        let mode = same_mode m in
        record {
          fitting = subst (λ (m : ℕ). Each (Fitting m row) all) (sym mode) (each_more (Fitting (mode_of seen) row) seen f s.fitting (λ x. absurd (n x)));
          within = subst (λ (m : ℕ). length (joined_data row.tag all) ≤ row.limit * unit_of m row) (sym mode) (omega (arith, s.within, ap length (joined_kept row.tag f seen n)));
          low = lower;
        }

    sound_more : Sound row all
    sound_more =
        ⊎_elim (λ (e : f.tag ≡ row.tag). sound_here e) (λ (n : f.tag ≢ row.tag). ⊎_elim (λ (e : f.tag ≡ 2). sound_mode e) (λ (m : f.tag ≢ 2). sound_other n m) (cases_eq f.tag 2)) (cases_eq f.tag row.tag)

  -- ---- the whole reading

  module _ (fuel at : ℕ) (seen : List Field) (bytes : List ℕ) (all : List Field) (s : Sound row seen) (e : read_from (suc fuel) at seen bytes ≡ whole all) where
    abbrev f : Field
    f = field_at bytes

    abbrev rest : List ℕ
    rest = drop (3 + length_at bytes) bytes

    abbrev Goal : Type 0
    Goal = Sound row all × (all ≡ seen ++ fields_in bytes)

    module _ (c : is_cut bytes ≡ false) (n : fault_of seen f ≡ None) where
      sounder : Sound row (seen ++ (f ∷ []))
      sounder = sound_more seen f s n

      -- FF, with nothing behind it
      by_rest : (l : List ℕ) → rest ≡ l → after_end (at + (3 + length_at bytes)) (seen ++ (f ∷ [])) l ≡ whole all → Goal
      unfolding after_end
      by_rest [] r h =
          let is : all ≡ seen ++ (f ∷ []) = cc in
          let none : fields_in rest ≡ [] = fields_cut rest (cut_header rest (omega (arith, ap length r))) in
          (subst (Sound row) (sym is) sounder, is ∙ ap (λ (fs : List Field). seen ++ (f ∷ fs)) (sym none) ∙ ap (λ (fs : List Field). seen ++ fs) (sym (fields_next bytes c)))
      by_rest (x ∷ l) r h = absurd (let z : ◌≡◌ {A = ℕ} 0 1 = cc in omega arith)

      by_end : (b : Bool) → eqb f.tag 255 ≡ b
          → (Sound row (seen ++ (f ∷ [])) → read_from fuel (at + (3 + length_at bytes)) (seen ++ (f ∷ [])) rest ≡ whole all → Sound row all × (all ≡ (seen ++ (f ∷ [])) ++ fields_in rest)) → Goal
      by_end true t rec = by_rest rest refl (sym (reads_end fuel at seen bytes c n (eqb-true f.tag 255 t)) ∙ e)
      by_end false t rec =
          let r = rec sounder (sym (reads_on fuel at seen bytes c n (eqb-false f.tag 255 t)) ∙ e) in
          (r.0, r.1 ∙ append_snoc seen f (fields_in rest) ∙ ap (λ (fs : List Field). seen ++ fs) (sym (fields_next bytes c)))

    by_fault : (o : Option Reason) → fault_of seen f ≡ o → is_cut bytes ≡ false
        → (Sound row (seen ++ (f ∷ [])) → read_from fuel (at + (3 + length_at bytes)) (seen ++ (f ∷ [])) rest ≡ whole all → Sound row all × (all ≡ (seen ++ (f ∷ [])) ++ fields_in rest)) → Goal
    by_fault (Some why) n c rec = absurd (let q = sym e ∙ reads_fault fuel at seen bytes c why n in let z : ◌≡◌ {A = ℕ} 0 1 = cc in omega arith)
    by_fault None n c rec = by_end c n (eqb f.tag 255) refl rec

    by_cut : (b : Bool) → is_cut bytes ≡ b
        → (Sound row (seen ++ (f ∷ [])) → read_from fuel (at + (3 + length_at bytes)) (seen ++ (f ∷ [])) rest ≡ whole all → Sound row all × (all ≡ (seen ++ (f ∷ [])) ++ fields_in rest)) → Goal
    by_cut true c rec = absurd (let q = sym e ∙ reads_cut fuel at seen bytes c in let z : ◌≡◌ {A = ℕ} 0 1 = cc in omega arith)
    by_cut false c rec = by_fault (fault_of seen f) refl c rec

  reading : (fuel at : ℕ) (seen : List Field) (bytes : List ℕ) (all : List Field) → Sound row seen → read_from fuel at seen bytes ≡ whole all
      → Sound row all × (all ≡ seen ++ fields_in bytes)
  unfolding read_from
  reading zero at seen bytes all s e = absurd (let z : ◌≡◌ {A = ℕ} 0 1 = cc in omega arith)
  reading (suc fuel) at seen bytes all s e =
      by_cut fuel at seen bytes all s e (is_cut bytes) refl (reading fuel (at + (3 + length_at bytes)) (seen ++ (field_at bytes ∷ [])) (drop (3 + length_at bytes) bytes) all)

pub read_small : (job : List ℕ) (all : List Field) → read job ≡ whole all → (length job ≤ job_limit) × (read_from (suc (length job)) 0 [] job ≡ whole all)
unfolding read pick
read_small job all e = go (ltb job_limit (length job)) refl e
  where
    go : (b : Bool) → ltb job_limit (length job) ≡ b → pick b (refused_at JobTooLong 0) (read_from (suc (length job)) 0 [] job) ≡ whole all → (length job ≤ job_limit) × (read_from (suc (length job)) 0 [] job ≡ whole all)
    go true t e = absurd (let z : ◌≡◌ {A = ℕ} 0 1 = cc in omega arith)
    go false t e = (ltb-false job_limit (length job) t, e)

-- ---- the fields of a row, joined

module _ (t u : ℕ) (some : 0 < u) where
  abbrev Whole : Field → Type 0
  Whole f = f.tag ≡ t → length f.bytes % u ≡ 0

  pub joined_units : (fs : List Field) → Each Whole fs → units_in u t fs ≡ units u (joined_data t fs)
  unfolding units_in
  joined_units [] e = sym (ap (units u) (joined_none t) ∙ units_none u some [] some)
  joined_units (f ∷ fs) e =
      ⊎_elim
      (λ (h : f.tag ≡ t). ap (λ (us : List (List ℕ)). us ++ units_in u t fs) (pick_yes _ _ _ (eq-eqb f.tag t h)) ∙ ap (λ (us : List (List ℕ)). units u f.bytes ++ us) (joined_units fs e.1) ∙
      sym (ap (units u) (joined_here t f fs h) ∙ units-append u some f.bytes (joined_data t fs) (e.0 h)))
      (λ (h : f.tag ≢ t). ap (λ (us : List (List ℕ)). us ++ units_in u t fs) (pick_no _ _ _ (ne_eqb f.tag t h)) ∙ joined_units fs e.1 ∙ sym (ap (units u) (joined_past t f fs h)))
      (cases_eq f.tag t)

  pub joined_whole : (fs : List Field) → Each Whole fs → length (joined_data t fs) % u ≡ 0
  joined_whole [] e = ap (λ (l : List ℕ). length l % u) (joined_none t) ∙ zero-mod u
  joined_whole (f ∷ fs) e =
      ⊎_elim
      (λ (h : f.tag ≡ t). ap (λ (l : List ℕ). length l % u) (joined_here t f fs h) ∙ ap (λ (k : ℕ). k % u) (length-append f.bytes (joined_data t fs)) ∙
      add-mod (length f.bytes) (length (joined_data t fs)) u ∙ ap (λ (k : ℕ). (k + length (joined_data t fs) % u) % u) (e.0 h) ∙ ap (λ (k : ℕ). (0 + k) % u) (joined_whole fs e.1) ∙ zero-mod u)
      (λ (h : f.tag ≢ t). ap (λ (l : List ℕ). length l % u) (joined_past t f fs h) ∙ joined_whole fs e.1)
      (cases_eq f.tag t)

fits_whole : (mode : ℕ) (row : FieldRow) (n : ℕ) → fits mode row n ≡ true → n % unit_of mode row ≡ 0
unfolding fits pick
fits_whole mode row n e = go row.one e
  where
    go : (b : Bool) → pick b (eqb n (unit_of mode row)) (eqb (n % unit_of mode row) 0) ≡ true → n % unit_of mode row ≡ 0
    go true h = ap (λ (k : ℕ). k % unit_of mode row) (eqb-true n (unit_of mode row) h) ∙ mod_self (unit_of mode row)
    go false h = eqb-true (n % unit_of mode row) 0 h

few_units : (n u limit : ℕ) → 0 < u → n ≤ limit * u → n / u ≤ limit
few_units n u limit some h =
    ⊎_elim (λ (l : limit < n / u). absurd (let m : suc limit * u ≤ n / u * u = mul-le-mul_right u l in omega (arith, m, div-mul-le_self n u, suc-mul limit u))) (λ (l : n / u ≤ limit). l) (cases_lt limit (n / u))

unit_same : (mode : ℕ) (row : FieldRow) (u : ℕ) → row.unit ≡ u → row.unit_of_interval ≡ u → unit_of mode row ≡ u
unfolding unit_of pick
unit_same mode row u a b = go (eqb mode 0)
  where
    go : (t : Bool) → pick t row.unit row.unit_of_interval ≡ u
    go true = a
    go false = b

item_some : (mode : ℕ) → 0 < item_unit mode
unfolding item_unit pick
item_some mode = go (eqb mode 0)
  where
    go : (t : Bool) → 0 < pick t 12 16
    go true = omega arith
    go false = omega arith

module _ (job : List ℕ) (all : List Field) (e : read job ≡ whole all) where
  -- the fields are those of the bytes
  pub all_fields : all ≡ fields_in job
  unfolding rows_with filter field_table pick
  all_fields =
      (reading (single 3 20) refl (omega arith) (suc (length job)) 0 [] job all (sound_none (single 3 20) refl (omega arith)) (read_small job all e).1).1

  module _ (row : FieldRow) (is_row : rows_with row.tag ≡ row ∷ []) (late : 2 < row.tag) where
    joined_row : 0 < unit_of (mode_of (fields_in job)) row → Joined job row.tag (unit_of (mode_of (fields_in job)) row) row.limit
    unfolding column_of
    joined_row some =
        let r = reading row is_row late (suc (length job)) 0 [] job all (sound_none row is_row late) (read_small job all e).1 in
        let s : Sound row (fields_in job) = subst (Sound row) r.1 r.0 in
        let u = unit_of (mode_of (fields_in job)) row in
        let each : Each (λ f. f.tag ≡ row.tag → length f.bytes % u ≡ 0) (fields_in job) =
        each_map (Fitting (mode_of (fields_in job)) row) (λ f. f.tag ≡ row.tag → length f.bytes % u ≡ 0) (λ f g t. fits_whole (mode_of (fields_in job)) row (length f.bytes) (g t)) (fields_in job) s.fitting in
        let is = joined_units row.tag u some (fields_in job) each in
        record {
          some = some;
          whole = joined_whole row.tag u some (fields_in job) each;
          is = is;
          bytes = s.within;
          few = omega (arith, ap length is, units_count u some (joined_data row.tag (fields_in job)), few_units (length (joined_data row.tag (fields_in job))) u row.limit some s.within);
        }

    -- of the same size in both modes
    joined_fixed : (u : ℕ) → row.unit ≡ u → row.unit_of_interval ≡ u → 0 < u → Joined job row.tag u row.limit
    joined_fixed u a b some =
        let same = unit_same (mode_of (fields_in job)) row u a b in
        subst (λ (k : ℕ). Joined job row.tag k row.limit) same (joined_row (omega (arith, same)))

  pub accepted : Accepted job
  unfolding rows_with filter field_table pick unit_of item_unit
  accepted = record {
    small = (read_small job all e).0;
    settings = joined_fixed (single 3 20) refl (omega arith) 20 refl refl (omega arith);
    minimum = joined_fixed (optional 4 8) refl (omega arith) 8 refl refl (omega arith);
    query = joined_fixed (several 5 8 512) refl (omega arith) 8 refl refl (omega arith);
    items = joined_row (joining 6 12 16 2048) refl (omega arith) (item_some (mode_of (fields_in job)));
    estimates = joined_fixed (joining 7 16 16 513) refl (omega arith) 16 refl refl (omega arith);
  }
