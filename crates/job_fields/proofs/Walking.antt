-- The first pass, field by field: what is left to read from here gives the verdict of the whole. Each turn's step is one case of the rules' reading, and
-- every field takes bytes, so the rules' fuel never runs out. Assumes nothing.
use Prim.Native.Nat.{ℕ, zero, suc, ◌+◌, ◌<◌, ◌≤◌}
use mathlib.Core.Path.{◌≡◌, refl, sym, ap, ◌∙◌, subst}
use mathlib.Core.Logic.{◌≢◌}
use mathlib.Core.Bool.{Bool, true, false}
use mathlib.Core.List.{List, [], ◌∷◌, ◌++◌}
use native.Mathlib.Omega.{arith}
use borrow.Author.Tests.{lt-ltb, le-ltb}
use lib.ListN.{length, drop, length-drop, drop_of_length-le}
use lib.Seq.{drop-drop, drop-cons}
use Rattle.std.specs.Prelude.{Option, Some, None, Result, Ok, Err}
use Rattle.base.specs.Pick.{pick}
use Rattle.base.specs.declared.Reason.{Reason}
use Rattle.base.specs.declared.Reason.TheVariants.{JobTooLong, JobCut, BytesBehind}
use Rattle.base.specs.declared.Refusal.{Refusal}
use Rattle.rules.specs.Limits.{job_limit}
use Rattle.rules.specs.Job.{Field, fault_of, field_at, length_at, is_cut, after_end, read_from, read}
use Rattle.job_fields.specs.Reader.{next_field, taken_of}
use Rattle.job_fields.specs.Judge.{seen_with, unless, seen_after, step_of, placed, verdict_of}
use Rattle.job_fields.specs.Mode.{byte_of, mode_at}
use Rattle.job_fields.specs.declared.mode.Mode.{Mode}
use Rattle.job_fields.specs.declared.mode.Mode.TheVariants.{Minimizer, Interval}
use Rattle.job_fields.specs.declared.judge.Seen.{Seen}
use Rattle.job_fields.proofs.Picks.{pick_yes, pick_no}
use Rattle.job_fields.proofs.Heads.{whole_field, is_none, is_some, size_is, taken_is}
use Rattle.job_fields.proofs.Steps.{earlier_le, Holds, holds_none, holds_more, fault_is, reads_cut, reads_fault, reads_end, reads_on}

-- refused at a place
abbrev pub refuse : {A : Type 0} → Reason → ℕ → Result A Refusal
refuse why at = Err (record { reason = why; place = at })

-- the step over the field that the reader found, or where it found none
module _ (s : Seen) (bytes : List ℕ) where
  pub step_cut : None ≡ next_field bytes → Err JobCut ≡ step_of s bytes
  unfolding step_of
  step_cut e = sym (pick_yes _ _ _ (is_none bytes e))

  pub step_field : (f : Field) → Some f ≡ next_field bytes → seen_after s f ≡ step_of s bytes
  unfolding step_of
  step_field f e = let is = is_some bytes f e in ap (seen_after s) is.1 ∙ sym (pick_no _ _ _ is.0)

  pub field_size : (f : Field) → Some f ≡ next_field bytes → length f.bytes ≤ length bytes
  field_size f e =
      let is = is_some bytes f e in
      omega (arith, ap (λ (x : Field). length x.bytes) is.1, size_is bytes is.0, whole_field bytes is.0)

pub record Walking (job : List ℕ) (at : ℕ) (s : Seen) : Type 0 where
  pub fuel : ℕ
  pub fields : List Field
  pub here : at ≤ length job
  pub enough : length job < at + fuel
  pub small : s.joined ≤ at
  pub holds : Holds fields s
  pub left : read job ≡ read_from fuel at fields (drop at job)

pub walking_start : (job : List ℕ) → length job ≤ job_limit → Walking job 0 (record { before = 0; mode = Minimizer; joined = 0 })
unfolding read
walking_start job l = record {
  fuel = suc (length job);
  fields = [];
  here = omega arith;
  enough = omega arith;
  small = omega arith;
  holds = holds_none;
  left = pick_no _ _ _ (le-ltb job_limit (length job) l);
}

pub too_long : (job : List ℕ) → job_limit < length job → refuse JobTooLong 0 ≡ verdict_of (read job)
unfolding read verdict_of
too_long job l = sym (ap verdict_of (pick_yes _ _ _ (lt-ltb job_limit (length job) l)))

-- what a step tells of the whole: the refusal, or that the reader stands behind FF, or within
pub record Ended (job : List ℕ) (p : ℕ) (s : Seen) : Type 0 where
  pub last : List Field
  pub holds : Holds last s
  pub is : verdict_of (read job) ≡ verdict_of (after_end p last (drop p job))

pub record Onward (job : List ℕ) (at p : ℕ) (s : Seen) : Type 0 where
  pub on : at < p
  pub upto : p ≤ length job
  pub ended : s.before ≡ 255 → Ended job p s
  pub further : s.before ≢ 255 → Walking job p s

abbrev pub Told : List ℕ → ℕ → ℕ → Result Seen Reason → Type 0
Told job at p (Err why) = refuse why at ≡ verdict_of (read job)
Told job at p (Ok s) = Onward job at p s

module _ (job : List ℕ) (at : ℕ) (s : Seen) (fuel : ℕ) (fields : List Field) where
  abbrev bytes : List ℕ
  bytes = drop at job

  abbrev f : Field
  f = field_at bytes

  abbrev p : ℕ
  p = at + taken_of bytes

  module _ (here : at ≤ length job) (enough : length job < at + suc fuel) (small : s.joined ≤ at) (h : Holds fields s)
      (left : read job ≡ read_from (suc fuel) at fields bytes) where
    told_cut : is_cut bytes ≡ true → Told job at p (step_of s bytes)
    unfolding verdict_of step_of
    told_cut e = subst (Told job at p) (sym (pick_yes _ _ _ e)) (sym (ap verdict_of (left ∙ reads_cut fuel at fields bytes e)))

    module _ (e : is_cut bytes ≡ false) where
      stepped : (o : Option Reason) → fault_of fields f ≡ o → unless o (seen_with s f) ≡ step_of s bytes
      unfolding step_of seen_after
      stepped o is = ap (λ (why : Option Reason). unless why (seen_with s f)) (sym is ∙ sym (fault_is h f)) ∙ sym (pick_no _ _ _ e)

      next : p ≡ at + (3 + length_at bytes)
      next = ap (λ (k : ℕ). at + k) (taken_is bytes e)

      rest : drop (3 + length_at bytes) bytes ≡ drop p job
      rest = drop-drop (3 + length_at bytes) at job ∙ ap (λ (k : ℕ). drop k job) (sym next)

      inside : p ≤ length job
      inside = omega (arith, whole_field bytes e, length-drop at job, next)

      joined_small : (seen_with s f).joined ≤ p
      unfolding seen_with
      joined_small = omega (arith, next, size_is bytes e, earlier_le s f.tag)

      module _ (none : fault_of fields f ≡ None) where
        told_end : f.tag ≡ 255 → Ended job p (seen_with s f)
        told_end t = record {
          last = fields ++ (f ∷ []);
          holds = holds_more h f none;
          is = ap verdict_of (left ∙ reads_end fuel at fields bytes e none t ∙ ap (λ (k : ℕ). after_end k (fields ++ (f ∷ [])) (drop (3 + length_at bytes) bytes)) (sym next) ∙ ap (after_end p (fields ++ (f ∷ []))) rest);
        }

        told_next : f.tag ≢ 255 → Walking job p (seen_with s f)
        told_next t = record {
          fuel = fuel;
          fields = fields ++ (f ∷ []);
          here = inside;
          enough = omega (arith, next);
          small = joined_small;
          holds = holds_more h f none;
          left = left ∙ reads_on fuel at fields bytes e none t ∙ ap (λ (k : ℕ). read_from fuel k (fields ++ (f ∷ [])) (drop (3 + length_at bytes) bytes)) (sym next) ∙ ap (read_from fuel p (fields ++ (f ∷ []))) rest;
        }

      by_fault : (o : Option Reason) → fault_of fields f ≡ o → Told job at p (unless o (seen_with s f))
      unfolding verdict_of seen_with
      by_fault (Some why) is = sym (ap verdict_of (left ∙ reads_fault fuel at fields bytes e why is))
      by_fault None is = record { on = omega (arith, next); upto = inside; ended = told_end is; further = told_next is }

    by_cut : (b : Bool) → is_cut bytes ≡ b → Told job at p (step_of s bytes)
    by_cut true e = told_cut e
    by_cut false e = subst (Told job at p) (stepped e (fault_of fields f) refl) (by_fault e (fault_of fields f) refl)

by_fuel : (job : List ℕ) (at : ℕ) (s : Seen) (fuel : ℕ) (fields : List Field) → at ≤ length job → length job < at + fuel → s.joined ≤ at → Holds fields s
    → read job ≡ read_from fuel at fields (drop at job) → Told job at (at + taken_of (drop at job)) (step_of s (drop at job))
by_fuel job at s zero fields here enough small h left = absurd (omega arith)
by_fuel job at s (suc fuel) fields here enough small h left = by_cut job at s fuel fields here enough small h left (is_cut (drop at job)) refl

pub told_step : (job : List ℕ) (at : ℕ) (s : Seen) (r : Result Seen Reason) → Walking job at s → r ≡ step_of s (drop at job) → Told job at (at + taken_of (drop at job)) r
told_step job at s r w e =
    subst (Told job at (at + taken_of (drop at job))) (sym e) (by_fuel job at s w.fuel w.fields w.here w.enough w.small w.holds w.left)

-- the same of a reader over these bytes, with the offset of a refusal
module _ (job read_job : List ℕ) (same : read_job ≡ job) (at : ℕ) (s : Seen) (w : Walking job at s) where
  from_job : (r : Result Seen Reason) → r ≡ step_of s (drop at read_job) → Told job at (at + taken_of (drop at read_job)) r
  from_job r e =
      subst (λ (k : ℕ). Told job at (at + k) r) (sym (ap (λ (j : List ℕ). taken_of (drop at j)) same))
      (told_step job at s r w (e ∙ ap (λ (j : List ℕ). step_of s (drop at j)) same))

  pub told_refused : (x : Refusal) → Err x ≡ placed at (step_of s (drop at read_job)) → Err x ≡ verdict_of (read job)
  told_refused x e = go (step_of s (drop at read_job)) refl e
    where
      go : (r : Result Seen Reason) → r ≡ step_of s (drop at read_job) → Err x ≡ placed at r → Err x ≡ verdict_of (read job)
      go (Ok t) is z = absurd (let w : ◌≡◌ {A = ℕ} 0 1 = cc in omega arith)
      go (Err why) is z = let y : x ≡ record { reason = why; place = at } = cc in ap Err y ∙ from_job (Err why) is

  pub told_onward : (t : Seen) → Ok t ≡ placed at (step_of s (drop at read_job)) → Onward job at (at + taken_of (drop at read_job)) t
  told_onward t e = go (step_of s (drop at read_job)) refl e
    where
      go : (r : Result Seen Reason) → r ≡ step_of s (drop at read_job) → Ok t ≡ placed at r → Onward job at (at + taken_of (drop at read_job)) t
      go (Ok u) is z = let y : t ≡ u = cc in subst (Onward job at (at + taken_of (drop at read_job))) (sym y) (from_job (Ok u) is)
      go (Err why) is z = absurd (let w : ◌≡◌ {A = ℕ} 0 1 = cc in omega arith)

-- FF was read
mode_back : (mode : Mode) → mode ≡ mode_at (byte_of mode)
unfolding mode_at pick
mode_back Minimizer = refl
mode_back Interval = refl

module _ {job : List ℕ} {p : ℕ} {s : Seen} (e : Ended job p s) where
  pub more_bytes : p < length job → refuse BytesBehind p ≡ verdict_of (read job)
  unfolding after_end verdict_of
  more_bytes l = sym (e.is ∙ ap (λ (b : List ℕ). verdict_of (after_end p e.last b)) (drop-cons job p 0 l))

  pub all_read : length job ≤ p → Ok s.mode ≡ verdict_of (read job)
  unfolding after_end verdict_of
  all_read l =
      ap Ok (mode_back s.mode ∙ ap mode_at (sym e.holds.chosen)) ∙
      sym (e.is ∙ ap (λ (b : List ℕ). verdict_of (after_end p e.last b)) (drop_of_length-le job l))
