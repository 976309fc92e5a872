-- `run` scores every span: the best so far with the spans to come is the best of all, and while the keys of one position are applied the spans from there on
-- stay the same.
use mathlib.Core.Path.{◌≡◌}
use Prim.Native.Nat.{◌-◌, ◌≤◌}
use lib.ListN.{length, get_or, drop}
use Rattle.rules.specs.Sweep.{Sweep, best_from}
use Rattle.rules.specs.Interval.{event_at, spans_from}
use Rattle.slide_mapper.specs.State.{flags_of, counts_of}
use Rattle.interval_events.specs.Spans.{Asks}
use Rattle.interval_events.proofs.Spanning.{Applying, rest_of}
use Rattle.interval_events.proofs.spans.run.Given as goal

abbrev pub invariant-group : goal.invariant-group
invariant-group l = record {
  applying : Applying (length l.keys) l.initial.lists l.lists l.at l.i;
  on : l.initial.i ≤ l.i;
  here : l.p ≡ event_at (get_or l.keys l.initial.i 0);
  spans : (s : Sweep) → spans_from s l.p (counts_of l.initial.lists.counts.now) (drop l.initial.i l.keys) ≡ spans_from s l.p (counts_of l.lists.counts.now) (drop l.i l.keys);
}

abbrev pub decreases-group : goal.decreases-group
decreases-group l = length l.keys - l.i

abbrev pub invariant-events : goal.invariant-events
invariant-events l = record {
  applying : Applying (length l.keys) l.initial.lists l.lists l.at l.i;
  best : (s : Sweep) → Asks s (flags_of l.initial.lists.counts.now) l.to.0 → best_from l.initial.best (rest_of s (counts_of l.initial.lists.counts.now) l.keys) ≡ best_from l.best (rest_of s (counts_of l.lists.counts.now) (drop l.i l.keys));
}

abbrev pub decreases-events : goal.decreases-events
decreases-events l = length l.keys - l.i
