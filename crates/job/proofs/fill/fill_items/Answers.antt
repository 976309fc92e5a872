-- `fill_items` fills two columns of the positions, or three of the intervals.
use Prim.Native.Nat.{ℕ}
use mathlib.Core.Path.{sym, ap, ◌∙◌}
use mathlib.Core.List.{List, map}
use Rattle.base.specs.Buffers.{over}
use Rattle.rules.specs.Job.{number_at}
use Rattle.job.proofs.Decoding.{items_room, items_filled, point_mode, point_size, no_ends, span_mode, span_size, ends_are}
use Rattle.job.proofs.fill.fill_items.Goals as goal

pub fill-requires-clause-room : goal.fill-requires-clause-room
fill-requires-clause-room c =
    let job = c.args.job.now in
    let a = c.requires.accepted in
    items_room job a 12 (point_size job a (point_mode job a (sym c.in-Minimizer.is ∙ c.requires.mode))) _ c.of-points.ensures.rest c.requires.hashes

pub fill-requires-in-Interval-clause-room : goal.fill-requires-in-Interval-clause-room
fill-requires-in-Interval-clause-room c =
    let job = c.args.job.now in
    let a = c.requires.accepted in
    items_room job a 16 (span_size job a (span_mode job a (sym c.in-Interval.is ∙ c.requires.mode))) _ c.of-spans.ensures.rest c.requires.hashes

pub returns-in-Minimizer : goal.returns-in-Minimizer
returns-in-Minimizer c =
    let job = c.args.job.now in
    let a = c.requires.accepted in
    let points = point_mode job a (sym c.in-Minimizer.is ∙ c.requires.mode) in
    items_filled job a 12 (point_size job a points) _ c.of-points.ensures.rest c.fill-in-Minimizer.ensures.count c.fill.ensures.filled c.fill-in-Minimizer.ensures.filled (no_ends job a points c.args.ends.now)

pub returns-in-Interval : goal.returns-in-Interval
returns-in-Interval c =
    let job = c.args.job.now in
    let a = c.requires.accepted in
    let spans = span_mode job a (sym c.in-Interval.is ∙ c.requires.mode) in
    items_filled job a 16 (span_size job a spans) _ c.of-spans.ensures.rest c.fill-in-Interval-3.ensures.count c.fill-in-Interval.ensures.filled c.fill-in-Interval-2.ensures.filled
    (c.fill-in-Interval-3.ensures.filled ∙ ap (λ (l : List ℕ). over l c.args.ends.now) (ap (map (number_at 12 4)) c.of-spans.ensures.rest ∙ ends_are job a spans))
