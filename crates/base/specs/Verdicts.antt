-- What the checks of a call say: the first refusal in number order, or that all is fine.
use Rattle.std.specs.Prelude.{ℕ, Result, Ok, Err}
use Rattle.base.specs.declared.Reason.{Reason}
use Rattle.base.specs.declared.Reason.TheVariants.{TooLarge, BadSetting, UnequalLengths, QueryOrder, ItemOrder, NotMember, ShortTable, ShortBuffer, JobTooLong, JobCut, UnknownTag, FieldMisplaced, FieldMalformed, FieldLimit, BytesBehind}
use Rattle.base.specs.declared.Refusal.{Refusal}

-- the number that a caller is told
abbrev pub number_of : Reason → ℕ
number_of TooLarge = 1
number_of BadSetting = 2
number_of UnequalLengths = 3
number_of QueryOrder = 4
number_of ItemOrder = 5
number_of NotMember = 6
number_of ShortTable = 7
number_of ShortBuffer = 8
number_of JobTooLong = 11
number_of JobCut = 12
number_of UnknownTag = 13
number_of FieldMisplaced = 14
number_of FieldMalformed = 15
number_of FieldLimit = 16
number_of BytesBehind = 17

abbrev pub Verdict : Type 0
Verdict = Result Unit Refusal

abbrev pub Fine : Verdict
Fine = Ok tt

-- refused, for this reason at this place
abbrev pub refuse : Reason → ℕ → Verdict
refuse reason place = Err (record { reason = reason; place = place })

-- the first that refuses
unfoldable pub or_else : Verdict → Verdict → Verdict
or_else (Ok u) w = w
or_else (Err r) w = Err r
