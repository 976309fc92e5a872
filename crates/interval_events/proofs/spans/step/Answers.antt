-- `step` is one of the mapper's two moves, and the counts go by the rules' `stepped`.
use mathlib.Core.Path.{◌≡◌, sym, ap, ◌∙◌}
use native.Mathlib.Omega.{arith}
use Rattle.rules.specs.Interval.{event_kind, event_coord}
use Rattle.slide_mapper.proofs.State.{counts_at}
use Rattle.base.specs.Kinds.{kind_number}
use Rattle.interval_events.proofs.Spanning.{step_insert, step_delete}
use Rattle.interval_events.proofs.spans.step.Goals as goal

pub delete_ref-requires : goal.delete_ref-requires
unfolding event_coord
delete_ref-requires c = record { at = c.requires.pivot; inside = c.requires.inside }

pub returns-in-Delete : goal.returns-in-Delete
unfolding event_coord
returns-in-Delete c =
    let kind : event_kind c.args.key ≡ 0 = sym c.kind_of.ensures ∙ ap kind_number c.in-Delete.is in
    step_delete c.requires.pivot c.requires.inside (event_kind c.args.key) (omega arith) c.delete_ref.ensures.left

pub insert_ref-requires : goal.insert_ref-requires
unfolding event_coord
insert_ref-requires c = record {
  at = c.requires.pivot;
  inside = c.requires.inside;
  room = omega (arith, c.requires.few, counts_at c.args.lists.now.counts.now (event_coord c.args.key));
}

pub returns-in-Insert : goal.returns-in-Insert
unfolding event_coord
returns-in-Insert c =
    let kind : event_kind c.args.key ≡ 1 = sym c.kind_of.ensures ∙ ap kind_number c.in-Insert.is in
    step_insert c.requires.pivot c.requires.inside (event_kind c.args.key) kind c.insert_ref.ensures.entered
