-- `answer` is an early none where the work is, and else the place is made of what that found.
use mathlib.Core.Path.{◌∙◌}
use Rattle.minimizer_sweep.proofs.Answering.{early_answer, found_answer, found_fits}
use Rattle.minimizer_sweep.proofs.answer.Goals as goal

pub settle_found-requires : goal.settle_found-requires
settle_found-requires c =
    let s = c.args.search in
    found_fits s.settings s.window s.range _ _ _ c.args.table.identities.now c.args.table.uppers.now c.args.minimum c.in-Some.ensures.told c.requires.ready c.requires.table s.items.near

pub returns-in-None-clause-answer : goal.returns-in-None-clause-answer
returns-in-None-clause-answer c =
    let s = c.args.search in
    c.early.ensures ∙ early_answer s.settings s.window s.range _ _ _ c.args.table.identities.now c.args.table.uppers.now c.args.minimum c.in-None.ensures.told

pub returns-in-Some-clause-answer : goal.returns-in-Some-clause-answer
returns-in-Some-clause-answer c =
    let s = c.args.search in
    found_answer s.settings s.window s.range _ _ _ c.args.table.identities.now c.args.table.uppers.now c.args.minimum c.in-Some.ensures.told c.settle_found.ensures
