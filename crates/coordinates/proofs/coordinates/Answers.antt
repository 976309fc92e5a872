-- `coordinates::coordinates` meets its contract: the query's numbers, marked, are the flags. Assumes nothing.
use Rattle.coordinates.proofs.Marks.{query_fits, query_marked}
use Rattle.coordinates.proofs.coordinates.Goals as goal

pub mark-requires : goal.mark-requires
mark-requires c = query_fits c.args.query.now c.args.hashes.now c.number-n.ensures c.requires.blank

pub returns : goal.returns
returns c = query_marked c.args.query.now c.args.hashes.now c.number-n.ensures c.requires.blank c.mark.ensures
