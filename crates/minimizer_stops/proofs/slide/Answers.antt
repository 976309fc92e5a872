-- `slide` makes the next stop's items active: what leaves goes first, then what comes.
use Rattle.minimizer_stops.proofs.Holding.{kept_on}
use Rattle.minimizer_stops.proofs.slide.Goals as goal

pub returns : goal.returns
returns c = record { holds = c.enter.ensures.holds; kept = kept_on c.leave-left.ensures.kept c.enter.ensures.kept }
