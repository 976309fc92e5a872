-- `goes_on` is the rules' `goes_on`.
use borrow.Author.Tests.{le-ltb}
use Rattle.minimizer_stops.specs.Stops.{stop_of}
use Rattle.minimizer_stops.proofs.Moving.{goes_past, goes_within}
use Rattle.minimizer_stops.proofs.goes_on.Goals as goal

pub returns-then-stop-positions : goal.returns-then-stop-positions
returns-then-stop-positions c = rw c.from.ensures (goes_within c.args.positions.now c.args.last (stop_of c.args.stop) c.if-stop-positions.true)

pub returns-else-stop-positions : goal.returns-else-stop-positions
returns-else-stop-positions c = rw (le-ltb _ _ c.if-stop-positions.false) (goes_past c.args.positions.now c.args.last (stop_of c.args.stop) c.if-stop-positions.false)
