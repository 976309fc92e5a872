-- `of` stands at the front of the job.
use Rattle.job.specs.Units.{column_of, rest_of}
use Rattle.job.proofs.Finding.{all_left}
use Rattle.job.proofs.units.Units.of.Goals as goal

pub returns-clause-rest : goal.returns-clause-rest
unfolding rest_of column_of
returns-clause-rest c = all_left c.args.size c.args.tag c.requires c.args.job.now c.new.result.job.now c.new.result.offset c.new.ensures.job c.new.ensures.front
