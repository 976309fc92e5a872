-- `kind_of` reads the kind's bit.
use native.Mathlib.Omega.{arith}
use Rattle.rules.specs.Interval.{event_kind}
use Rattle.interval_events.proofs.spans.kind_of.Goals as goal

pub returns-then-key-eq0 : goal.returns-then-key-eq0
unfolding event_kind
returns-then-key-eq0 c = omega arith

pub returns-else-key-eq0 : goal.returns-else-key-eq0
unfolding event_kind
returns-else-key-eq0 c = omega arith
