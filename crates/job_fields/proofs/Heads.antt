-- The field at the front of the bytes: cut, by numbers, or whole. Assumes nothing.
use Prim.Native.Nat.{ℕ, ◌+◌, ◌-◌, ◌*◌, ◌<◌, ◌≤◌}
use mathlib.Core.Path.{◌≡◌, refl, sym, ap, ◌∙◌, subst}
use mathlib.Core.Bool.{Bool, true, false, ◌||◌}
use mathlib.Core.List.{List}
use native.Mathlib.Omega.{arith}
use borrow.Author.Tests.{lt-ltb, le-ltb, ltb-false}
use lib.Dec.{ltb}
use lib.ListN.{length, get_or, take, drop, length-drop}
use lib.Seq.{length-take-le}
use Rattle.base.specs.Pick.{pick}
use Rattle.rules.specs.Job.{Field, length_at, field_at, is_cut}
use Rattle.std.specs.Prelude.{Option, Some, None}
use Rattle.std.specs.List.{slice_range}
use Rattle.std.proofs.lemmas.List.{take_all}
use Rattle.job_fields.specs.Reader.{next_field, taken_of}
use Rattle.job_fields.proofs.Picks.{pick_yes, pick_no}

-- two tests of which neither holds
pub neither : (a b : Bool) → a || b ≡ false → (a ≡ false) × (b ≡ false)
neither true b e = absurd (let z : ◌≡◌ {A = ℕ} 0 1 = cc in omega arith)
neither false b e = (refl, e)

-- cut, by numbers

module _ (bytes : List ℕ) where
  pub cut_header : length bytes < 3 → is_cut bytes ≡ true
  unfolding is_cut
  cut_header h = rw (lt-ltb (length bytes) 3 h)

  pub cut_data : 3 ≤ length bytes → length bytes < 3 + length_at bytes → is_cut bytes ≡ true
  unfolding is_cut
  cut_data h l = rw (le-ltb (length bytes) 3 h) (lt-ltb (length bytes) (3 + length_at bytes) l)

  pub not_cut : 3 + length_at bytes ≤ length bytes → is_cut bytes ≡ false
  unfolding is_cut
  not_cut h = rw (le-ltb (length bytes) 3 (omega arith)) (le-ltb (length bytes) (3 + length_at bytes) h)

  pub whole_field : is_cut bytes ≡ false → 3 + length_at bytes ≤ length bytes
  unfolding is_cut
  whole_field e = ltb-false (length bytes) (3 + length_at bytes) (neither (ltb (length bytes) 3) (ltb (length bytes) (3 + length_at bytes)) e).1

-- the field at the front, as the reader finds it: `rest` is what the code takes for the bytes

pub rest_is : (o : ℕ) (job : List ℕ) → take (length job - o) (drop o job) ≡ drop o job
rest_is o job = take_all (length job - o) (drop o job) (omega (arith, length-drop o job))

pub record NoField (bytes : List ℕ) : Type 0 where
  pub field : None ≡ next_field bytes
  pub taken : 0 ≡ taken_of bytes

pub record AField (bytes : List ℕ) (f : Field) (n : ℕ) : Type 0 where
  pub field : Some f ≡ next_field bytes
  pub taken : n ≡ taken_of bytes

abbrev found : ℕ → List ℕ → Option Field
found tag bytes = Some (record { tag = tag; bytes = bytes })

no_field : (bytes : List ℕ) → is_cut bytes ≡ true → NoField bytes
unfolding next_field taken_of
no_field bytes e = record { field = sym (pick_yes _ _ _ e); taken = sym (pick_yes _ _ _ e) }

module _ (bytes rest : List ℕ) (is : rest ≡ bytes) where
  pub field_short : length rest < 3 → NoField bytes
  field_short h = no_field bytes (cut_header bytes (subst (λ (r : List ℕ). length r < 3) is h))

  module _ (n : ℕ) (read : n ≡ get_or rest 1 0 + get_or rest 2 0 * 256) where
    length_is : n ≡ length_at bytes
    unfolding length_at
    length_is = subst (λ (r : List ℕ). n ≡ get_or r 1 0 + 256 * get_or r 2 0) is (omega arith)

    pub field_cut : 3 ≤ length rest → length rest < 3 + n → NoField bytes
    field_cut h l = no_field bytes (cut_data bytes (omega (arith, ap length is)) (omega (arith, ap length is, length_is)))

    pub field_whole : (d : List ℕ) → 3 + n ≤ length rest → d ≡ slice_range rest 3 (3 + n) → AField bytes (record { tag = get_or rest 0 0; bytes = d }) (3 + n)
    unfolding next_field taken_of field_at
    field_whole d l e =
        let whole = not_cut bytes (omega (arith, ap length is, length_is)) in
        let size : 3 + n - 3 ≡ length_at bytes = omega (arith, length_is) in
        let same : d ≡ take (length_at bytes) (drop 3 bytes) = e ∙ ap (λ (k : ℕ). take k (drop 3 rest)) size ∙ ap (λ (r : List ℕ). take (length_at bytes) (drop 3 r)) is in
        record {
          field =
              ap (λ (t : ℕ). found t d) (ap (λ (r : List ℕ). get_or r 0 0) is) ∙ ap (found (get_or bytes 0 0)) same ∙ sym (pick_no _ _ _ whole);
          taken = ap (λ (k : ℕ). 3 + k) length_is ∙ sym (pick_no _ _ _ whole);
        }

-- what the reader tells

module _ (bytes : List ℕ) where
  pub is_none : None ≡ next_field bytes → is_cut bytes ≡ true
  unfolding next_field pick
  is_none e = go (is_cut bytes) e
    where
      go : (b : Bool) → None ≡ pick b None (Some (field_at bytes)) → b ≡ true
      go true e = refl
      go false e = absurd (let z : ◌≡◌ {A = ℕ} 0 1 = cc in omega arith)

  pub is_some : (f : Field) → Some f ≡ next_field bytes → (is_cut bytes ≡ false) × (f ≡ field_at bytes)
  unfolding next_field pick
  is_some f e = go (is_cut bytes) e
    where
      go : (b : Bool) → Some f ≡ pick b None (Some (field_at bytes)) → (b ≡ false) × (f ≡ field_at bytes)
      go true e = absurd (let z : ◌≡◌ {A = ℕ} 0 1 = cc in omega arith)
      go false e = (refl, cc)

  pub size_is : is_cut bytes ≡ false → length (field_at bytes).bytes ≡ length_at bytes
  unfolding field_at
  size_is e = length-take-le (length_at bytes) (drop 3 bytes) (omega (arith, whole_field bytes e, length-drop 3 bytes))

  pub taken_is : is_cut bytes ≡ false → taken_of bytes ≡ 3 + length_at bytes
  unfolding taken_of
  taken_is e = pick_no _ _ _ e
