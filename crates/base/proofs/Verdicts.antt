-- How checks go down a definition of verdicts, and what is known of the input where the verdict is fine: it passed each test. By cases on the tests.
-- Assumes nothing.
use Prim.Native.Nat.{ℕ, ◌≤◌, ◌<◌}
use mathlib.Core.Path.{◌≡◌, refl}
use mathlib.Core.Logic.{◌≢◌}
use mathlib.Core.Bool.{Bool, true, false}
use native.Mathlib.Omega.{arith}
use borrow.Author.Tests.{ltb-false, eqb-true, eqb-false}
use lib.Dec.{ltb, eqb}
use Rattle.base.specs.Pick.{pick}
use Rattle.std.specs.Prelude.{Ok, Err}
use Rattle.base.specs.Verdicts.{Verdict, Fine, number_of, or_else}
use Rattle.base.specs.declared.Reason.{Reason}
use Rattle.base.specs.declared.Reason.TheVariants.{TooLarge, BadSetting, UnequalLengths, QueryOrder, ItemOrder, NotMember, ShortTable, ShortBuffer, JobTooLong, JobCut, UnknownTag, FieldMisplaced, FieldMalformed, FieldLimit, BytesBehind}
use Rattle.base.specs.declared.Refusal.{Refusal}

-- down a chain of calls: the first one refused, or it is fine and the rest decides
module _ (v w : Verdict) where
  pub or_stop : (r : Refusal) → v ≡ Err r → Err r ≡ or_else v w
  unfolding or_else
  or_stop r e = rw e

  pub or_skip : (z : Verdict) → v ≡ Fine → z ≡ w → z ≡ or_else v w
  unfolding or_else
  or_skip z e h = rw (e, h)

-- a refusal is not fine
pub no_fine : (r : Refusal) → Err r ≡ Fine → ⊥
no_fine r e = let z : ◌≡◌ {A = ℕ} 0 1 = cc in omega arith

pub or_fine : (v w : Verdict) → or_else v w ≡ Fine → (v ≡ Fine) × (w ≡ Fine)
unfolding or_else
or_fine (Ok u) w e = (refl, e)
or_fine (Err r) w e = absurd (no_fine r e)

-- a test that refuses where it holds, and one that refuses where it does not
pub stop_fine : (t : Bool) (r : Refusal) (w : Verdict) → pick t (Err r) w ≡ Fine → (t ≡ false) × (w ≡ Fine)
unfolding pick
stop_fine true r w e = absurd (no_fine r e)
stop_fine false r w e = (refl, e)

pub skip_fine : (t : Bool) (r : Refusal) (w : Verdict) → pick t w (Err r) ≡ Fine → (t ≡ true) × (w ≡ Fine)
unfolding pick
skip_fine true r w e = (refl, e)
skip_fine false r w e = absurd (no_fine r e)

-- the same by the numbers of the test, which are to be written out where these are cited
module _ (a b : ℕ) (r : Refusal) (w : Verdict) where
  pub lt_fine : pick (ltb a b) (Err r) w ≡ Fine → (b ≤ a) × (w ≡ Fine)
  lt_fine e = let f = stop_fine (ltb a b) r w e in (ltb-false a b f.0, f.1)

  pub eq_fine : pick (eqb a b) (Err r) w ≡ Fine → (a ≢ b) × (w ≡ Fine)
  eq_fine e = let f = stop_fine (eqb a b) r w e in (eqb-false a b f.0, f.1)

  pub same_fine : pick (eqb a b) w (Err r) ≡ Fine → (a ≡ b) × (w ≡ Fine)
  same_fine e = let f = skip_fine (eqb a b) r w e in (eqb-true a b f.0, f.1)

-- The numbers of two reasons differ: a reason can be had back from its number. None is 0, so a caller may read 0 as done.
pub reason_back : ℕ → Reason
reason_back n =
    pick (eqb n 1) TooLarge
    (pick (eqb n 2) BadSetting
    (pick (eqb n 3) UnequalLengths
    (pick (eqb n 4) QueryOrder
    (pick (eqb n 5) ItemOrder
    (pick (eqb n 6) NotMember
    (pick (eqb n 7) ShortTable
    (pick (eqb n 8) ShortBuffer
    (pick (eqb n 11) JobTooLong
    (pick (eqb n 12) JobCut
    (pick (eqb n 13) UnknownTag
    (pick (eqb n 14) FieldMisplaced
    (pick (eqb n 15) FieldMalformed
    (pick (eqb n 16) FieldLimit BytesBehind)))))))))))))

pub reason_back_lem : (r : Reason) → reason_back (number_of r) ≡ r
unfolding reason_back pick
reason_back_lem TooLarge = refl
reason_back_lem BadSetting = refl
reason_back_lem UnequalLengths = refl
reason_back_lem QueryOrder = refl
reason_back_lem ItemOrder = refl
reason_back_lem NotMember = refl
reason_back_lem ShortTable = refl
reason_back_lem ShortBuffer = refl
reason_back_lem JobTooLong = refl
reason_back_lem JobCut = refl
reason_back_lem UnknownTag = refl
reason_back_lem FieldMisplaced = refl
reason_back_lem FieldMalformed = refl
reason_back_lem FieldLimit = refl
reason_back_lem BytesBehind = refl

pub above_zero : (r : Reason) → 0 < number_of r
above_zero TooLarge = omega arith
above_zero BadSetting = omega arith
above_zero UnequalLengths = omega arith
above_zero QueryOrder = omega arith
above_zero ItemOrder = omega arith
above_zero NotMember = omega arith
above_zero ShortTable = omega arith
above_zero ShortBuffer = omega arith
above_zero JobTooLong = omega arith
above_zero JobCut = omega arith
above_zero UnknownTag = omega arith
above_zero FieldMisplaced = omega arith
above_zero FieldMalformed = omega arith
above_zero FieldLimit = omega arith
above_zero BytesBehind = omega arith
