-- `prepare` marks the query and begins: the state is the one that the rules begin with.
use Rattle.script_work.proofs.Marks.{begin_blank, begin_begun}
use Rattle.script_work.proofs.prepare.Goals as goal

pub begin-requires : goal.begin-requires
begin-requires c = begin_blank c.args.query.sound c.requires c.mark.ensures

pub returns : goal.returns
returns c = begin_begun c.args.query.sound c.mark.ensures c.begin.ensures.0 c.begin.ensures.1
