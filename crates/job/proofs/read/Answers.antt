-- `read` fills nothing where the verdict refuses, and else what the rules decode.
use Rattle.std.proofs.lemmas.Result.{err_from_is_err_and}
use Rattle.job.proofs.Reading.{refused_promise, is_accepted, mode_is, read_promise}
use Rattle.job.proofs.read.Goals as goal

pub returns-in_err-mode : goal.returns-in_err-mode
returns-in_err-mode c =
    let p = err_from_is_err_and c.from_residual.result c.from_residual.ensures.1 in
    rw (p.1, p.2) (refused_promise c.args.job.now _ c.in_err-mode.ensures _)

pub fill-requires-clause-accepted : goal.fill-requires-clause-accepted
fill-requires-clause-accepted c = is_accepted c.args.job.now _ c.in_ok-mode.ensures

pub fill-requires-clause-mode : goal.fill-requires-clause-mode
fill-requires-clause-mode c = mode_is c.args.job.now _ c.in_ok-mode.ensures

pub returns : goal.returns
returns c = read_promise c.args.job.now _ c.in_ok-mode.ensures _ _ _ c.fill.ensures.decoded c.fill.ensures.lists
