-- `span_end` answers the place before the next key, or the range's end where no key is left.
use mathlib.Core.Path.{sym, ap, ◌∙◌}
use Prim.Native.Nat.{ℕ, ◌-◌}
use borrow.Author.Tests.{ltb-false}
use Rattle.rules.specs.Interval.{event_at}
use Rattle.interval_events.proofs.Spanning.{span_end_at, span_end_past}
use Rattle.interval_events.proofs.spans.span_end.Goals as goal

pub returns-in-Some : goal.returns-in-Some
returns-in-Some c =
    let read = c.in-Some.ensures.lookup.3 in
    ap (λ (n : ℕ). n - 1) (c.position.ensures ∙ ap event_at (read.1 0)) ∙ span_end_at c.args.keys.now c.args.i c.args.to read.0

pub returns-in-None : goal.returns-in-None
returns-in-None c = span_end_past c.args.keys.now c.args.i c.args.to (ltb-false _ _ (sym c.in-None.ensures.lookup.0))
