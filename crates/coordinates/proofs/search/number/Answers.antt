-- `coordinates::search::number` meets its contract: the distinct keys are the rules' union, among which each hash is counted. Assumes nothing.
use lib.ListN.{length-take}
use native.Mathlib.Omega.{arith}
use Rattle.coordinates.proofs.Union.{front_few, front_asc, front_numbered}
use Rattle.coordinates.proofs.search.number.Goals as goal

pub look_up-requires : goal.look_up-requires
look_up-requires c =
    let q = c.args.hashes.query.now in
    let h = c.args.hashes.items.now in
    (front_asc q h c.gather.ensures c.distinct-n.ensures, omega (arith, length-take c.distinct-n.result c.distinct-n.new.keys, front_few q h c.gather.ensures c.distinct-n.ensures, c.requires.few), c.requires.coord_room)

pub returns : goal.returns
returns c = front_numbered c.args.hashes.query.now c.args.hashes.items.now c.gather.ensures c.distinct-n.ensures _ c.look_up.ensures
