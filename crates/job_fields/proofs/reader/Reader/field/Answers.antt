-- `field` finds no field where the bytes are too few for a header, or for its data.
use Prim.Native.Nat.{ℕ, ◌+◌, ◌<◌}
use mathlib.Core.Path.{ap, ◌∙◌}
use mathlib.Core.Logic.{◌⊎◌, ⊎_elim}
use native.Mathlib.Omega.{arith}
use Rattle.std.specs.Prelude.{option_map}
use Rattle.job_fields.specs.Reader.{field_of}
use Rattle.job_fields.proofs.Heads.{rest_is, field_short, field_cut, field_whole}
use Rattle.job_fields.proofs.reader.Reader.field.Goals as goal

-- a range that begins at 3 and is no part of the bytes ends behind them
short : (n size : ℕ) → (3 + n < 3) ⊎ (size < 3 + n) → size < 3 + n
short n size e = ⊎_elim (λ (h : 3 + n < 3). absurd (omega arith)) (λ (h : size < 3 + n). h) e

pub returns-in_default-clause-field : goal.returns-in_default-clause-field
returns-in_default-clause-field c = let s = c.args.self.now in (field_short _ _ (rest_is s.offset s.job.now) c.in_default.len_below).field

pub returns-in_default-clause-offset : goal.returns-in_default-clause-offset
returns-in_default-clause-offset c = let s = c.args.self.now in let t = (field_short _ _ (rest_is s.offset s.job.now) c.in_default.len_below).taken in omega arith

pub returns-in_err-bytes-clause-field : goal.returns-in_err-bytes-clause-field
returns-in_err-bytes-clause-field c =
    let s = c.args.self.now in
    ap (option_map field_of) c.from_residual.ensures ∙ (field_cut _ _ (rest_is s.offset s.job.now) c.from-length.result (c.from-length.ensures ∙ c.from_le_bytes.ensures) c.in-len3-up.len_at_least (short _ _ c.in_err-bytes.ensures.lookup.0)).field

pub returns-in_err-bytes-clause-offset : goal.returns-in_err-bytes-clause-offset
returns-in_err-bytes-clause-offset c =
    let s = c.args.self.now in
    let t = (field_cut _ _ (rest_is s.offset s.job.now) c.from-length.result (c.from-length.ensures ∙ c.from_le_bytes.ensures) c.in-len3-up.len_at_least (short _ _ c.in_err-bytes.ensures.lookup.0)).taken in
    omega arith

pub returns-clause-field : goal.returns-clause-field
returns-clause-field c = let s = c.args.self.now in (field_whole _ _ (rest_is s.offset s.job.now) c.from-length.result (c.from-length.ensures ∙ c.from_le_bytes.ensures) _ c.in_ok-bytes.ensures.lookup.0.1 c.in_ok-bytes.ensures.lookup.0.2).field

pub returns-clause-offset : goal.returns-clause-offset
returns-clause-offset c = let s = c.args.self.now in let t = (field_whole _ _ (rest_is s.offset s.job.now) c.from-length.result (c.from-length.ensures ∙ c.from_le_bytes.ensures) _ c.in_ok-bytes.ensures.lookup.0.1 c.in_ok-bytes.ensures.lookup.0.2).taken in omega arith
