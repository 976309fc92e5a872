-- `fill` is the rules' decoding, list by list.
use mathlib.Core.Path.{◌∙◌}
use Rattle.job.proofs.Decoding.{query_count, query_filled, told_decoded, lists_filled}
use Rattle.job.proofs.room.Room.fill.Goals as goal

pub returns-clause-decoded : goal.returns-clause-decoded
returns-clause-decoded c =
    told_decoded c.args.job.now _ _ _ _ _ _ c.requires.mode c.asked_of-asked.ensures c.minimum_of-minimum.ensures
    (c.fill-query.ensures.count ∙ query_count c.args.job.now c.requires.accepted _ c.of.ensures.rest) c.fill_items-items.ensures.count c.fill_estimates-estimates.ensures.count

pub returns-clause-lists : goal.returns-clause-lists
returns-clause-lists c =
    lists_filled c.args.job.now c.args.self.now.query.now (query_filled c.args.job.now c.requires.accepted _ c.of.ensures.rest _ _ c.fill-query.ensures.filled) c.fill_items-items.ensures c.fill_estimates-estimates.ensures
