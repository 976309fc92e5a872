-- `position` is the rules' `event_at`.
use borrow.Author.Rules.{rules}
use Rattle.rules.specs.Interval.{event_at}
use Rattle.interval_events.proofs.spans.position.Goals as goal

pub returns : goal.returns
unfolding event_at
returns c = search rules
