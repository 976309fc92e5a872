-- `answer_lines` goes by the answer.
use mathlib.Core.Path.{sym, ap, ◌∙◌}
use Rattle.lines.specs.Written.{lines_by}
use Rattle.lines.proofs.Writing.{wrote_as, none_are, placed_are}
use Rattle.lines.proofs.writer.Writer.answer_lines.Goals as goal

pub returns-in-Err : goal.returns-in-Err
unfolding lines_by
returns-in-Err c =
    let a = c.args in
    wrote_as _ _ (ap (lines_by a.identities.now a.uppers.now) (sym c.in-Err.is)) c.refused_line.ensures

pub returns-in-None : goal.returns-in-None
returns-in-None c =
    let a = c.args in
    wrote_as _ _ (none_are a.identities.now a.uppers.now c.in-Ok.outcome c.in-None.is ∙ ap (lines_by a.identities.now a.uppers.now) (sym c.in-Ok.is)) c.none_lines.ensures

pub returns-in-Some : goal.returns-in-Some
returns-in-Some c =
    let a = c.args in
    wrote_as _ _
    (placed_are a.identities.now a.uppers.now c.in-Ok.outcome c.in-Some.place c.entry_at-identity.result c.entry_at-upper.result c.in-Some.is c.entry_at-identity.ensures c.entry_at-upper.ensures ∙
    ap (lines_by a.identities.now a.uppers.now) (sym c.in-Ok.is))
    c.placed_lines.ensures
