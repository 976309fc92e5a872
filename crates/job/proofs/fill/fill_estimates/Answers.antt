-- `fill_estimates` fills four columns of the pairs.
use Rattle.job.proofs.Decoding.{estimates_room, estimates_filled}
use Rattle.job.proofs.fill.fill_estimates.Goals as goal

pub fill-requires-clause-room : goal.fill-requires-clause-room
fill-requires-clause-room c = estimates_room c.args.job.now c.requires.accepted _ c.of-pairs.ensures.rest c.requires.identities

pub returns : goal.returns
returns c = estimates_filled c.args.job.now c.requires.accepted _ c.of-pairs.ensures.rest c.fill-4.ensures.count c.fill.ensures.filled c.fill-2.ensures.filled c.fill-3.ensures.filled c.fill-4.ensures.filled
