-- The work lists as a struct, lent on twice. Assumes nothing.
use mathlib.Core.Path.{refl, ◌∙◌}
use Rattle.sweep.specs.declared.work.Work.{Work}
use Rattle.sweep.specs.Lent.{SameWork}

pub same_on : {v w x : Work} → SameWork v w → SameWork w x → SameWork v x
same_on p q = record {
  keys = q.keys ∙ p.keys;
  counts = q.counts ∙ p.counts;
  coords = q.coords ∙ p.coords;
  words = q.words ∙ p.words;
  summary = q.summary ∙ p.summary;
  size = q.size ∙ p.size;
}

pub same_none : (w : Work) → SameWork w w
same_none w = record { keys = refl; counts = refl; coords = refl; words = refl; summary = refl; size = refl }
