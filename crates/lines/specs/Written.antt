-- Bytes written into an array at an offset, and digits by their base.
use Rattle.std.specs.Prelude.{ℕ, zero, suc, Result, Some, None, Ok, Err, ◌+◌, ◌/◌, ◌%◌, ◌≤◌, ◌≡◌, true, false, List, [], ◌∷◌, ◌++◌, ltb, length, get_or, take, drop}
use Rattle.base.specs.Verdicts.{number_of}
use Rattle.base.specs.Answers.{SweepAnswer}
use Rattle.base.specs.declared.Refusal.{Refusal}
use Rattle.base.specs.declared.Outcome.{Outcome}
use Rattle.rules.specs.Text.{text}
use Rattle.lines.specs.declared.Told.{Told}
use Rattle.lines.specs.declared.writer.Writer.{Writer}
use Rattle.rules.specs.Lines.{hex_digit, hex, line, counts_line, refused_line, mapped_line}

-- the bytes stand at `at`, and r is behind them; the rest is kept
pub record Written (at : ℕ) (bytes entry : List ℕ) (r : ℕ) (exit : List ℕ) : Type 0 where
  pub next : r ≡ at + length bytes
  pub within : at + length bytes ≤ length entry
  pub is : exit ≡ take at entry ++ (bytes ++ drop (at + length bytes) entry)

-- what a writer wrote, into the same array
pub record Wrote (bytes : List ℕ) (old new : Writer) : Type 0 where
  pub written : Written old.at bytes old.out.now new.at new.out.now
  pub size : length new.out.now ≡ length old.out.now
  pub same : new.out.ghost_name ≡ old.out.ghost_name

-- the last c digits of n
unfoldable pub radix : ℕ → ℕ → ℕ → List ℕ
radix base zero n = []
radix base (suc c) n = radix base c (n / base) ++ (hex_digit (n % base) ∷ [])

-- how many decimal digits the rules print of n
unfoldable pub digit_count : ℕ → ℕ → ℕ
digit_count zero n = 0
digit_count (suc fuel) n = elim (ltb n 10) [ true ↦ 1 | false ↦ suc (digit_count fuel (n / 10)) ]

-- the line of an estimate's bits
unfoldable pub bits_line : ℕ → ℕ → List ℕ
bits_line identity upper = line (text "identity") (hex 16 identity ∷ hex 16 upper ∷ [])

-- what is printed of a refusal
abbrev pub told_of : Refusal → Told
told_of r = record { number = number_of r.reason; place = r.place }

-- and of an answer
unfoldable pub told : SweepAnswer → Result Outcome Told
told (Err r) = Err (told_of r)
told (Ok o) = Ok o

-- the lines of an answer, where these are the bits of the job's estimates
unfoldable pub lines_by : List ℕ → List ℕ → Result Outcome Told → List ℕ
lines_by identities uppers (Err r) = refused_line r.number r.place
lines_by identities uppers (Ok o) = elim o.place [
  | None ↦ line (text "none") [] ++ counts_line o.stats
  | Some p ↦ mapped_line p ++ (bits_line (get_or identities p.shared 0) (get_or uppers p.shared 0) ++ counts_line o.stats)
]
