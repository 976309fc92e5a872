-- `after` asks the tests in the order of the rules' chain.
use Prim.Native.Nat.{ℕ, ◌+◌}
use mathlib.Core.Path.{ap}
use native.Mathlib.Omega.{arith}
use lib.ListN.{length}
use Rattle.std.proofs.lemmas.Result.{err_from_is_err_and}
use Rattle.job_fields.specs.Reader.{field_of}
use Rattle.job_fields.proofs.Steps.{earlier_le}
use Rattle.job_fields.proofs.Faults.{unknown, out_of_place, malformed, wrong, passed_limit, nothing_wrong}
use Rattle.job_fields.proofs.judge.Seen.after.Goals as goal

pub returns-in_default : goal.returns-in_default
returns-in_default c = unknown c.args.self (field_of c.args.field) c.in_default.ensures

pub overflow_add-joined : goal.overflow_add-joined
overflow_add-joined c = omega (arith, earlier_le c.args.self c.args.field.tag, c.earlier.ensures, c.requires)

pub returns-then-is_misplaced : goal.returns-then-is_misplaced
returns-then-is_misplaced c = out_of_place c.args.self (field_of c.args.field) c.in-Some.row c.in-Some.ensures c.if-is_misplaced.ensures

pub returns-then-not-fits : goal.returns-then-not-fits
returns-then-not-fits c = malformed c.args.self (field_of c.args.field) c.in-Some.row c.in-Some.ensures c.if-is_misplaced.ensures c.if-not-fits.ensures

pub returns-in_err-mode : goal.returns-in_err-mode
returns-in_err-mode c =
    let p = err_from_is_err_and c.from_residual.result c.from_residual.ensures.1 in
    rw (p.1, p.2) (wrong c.args.self (field_of c.args.field) c.in-Some.row c.in-Some.ensures c.if-is_misplaced.ensures c.if-not-fits.ensures _ c.in_err-mode.ensures)

pub returns-then-is_passed : goal.returns-then-is_passed
returns-then-is_passed c =
    passed_limit c.args.self (field_of c.args.field) c.in-Some.row c.in-Some.ensures c.if-is_misplaced.ensures c.if-not-fits.ensures c.in_ok-mode.mode c.in_ok-mode.ensures
    _ (ap (λ (k : ℕ). k + length c.args.field.bytes.now) c.earlier.ensures) c.if-is_passed.ensures

pub returns : goal.returns
returns c =
    nothing_wrong c.args.self (field_of c.args.field) c.in-Some.row c.in-Some.ensures c.if-is_misplaced.ensures c.if-not-fits.ensures c.in_ok-mode.mode c.in_ok-mode.ensures
    _ (ap (λ (k : ℕ). k + length c.args.field.bytes.now) c.earlier.ensures) c.if-is_passed.ensures
