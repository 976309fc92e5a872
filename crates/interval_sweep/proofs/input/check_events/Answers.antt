-- `check_events` is the one choice of `keys_need`.
use Rattle.base.proofs.Checks.{checks}
use Rattle.interval_sweep.proofs.input.check_events.Goals as goal

pub returns-then-events-items : goal.returns-then-events-items
returns-then-events-items c = search checks depth 40

pub returns : goal.returns
returns c = search checks depth 40
