-- The work lists as a struct: what is asked of them and left in them. That their sizes fit each other is a ghost field of the struct.
use Rattle.std.specs.Prelude.{◌≡◌, List, ℕ, length}
use Rattle.sweep.specs.Beginning.{Clear, Begins}
use Rattle.sweep.specs.declared.Begun.{Begun}
use Rattle.sweep.specs.declared.work.Work.{Work}

-- the same lists are lent on, and there are as many keys
pub record SameWork (old new : Work) : Type 0 where
  pub keys : new.keys.ghost_name ≡ old.keys.ghost_name
  pub counts : new.counts.ghost_name ≡ old.counts.ghost_name
  pub coords : new.coords.ghost_name ≡ old.coords.ghost_name
  pub words : new.words.ghost_name ≡ old.words.ghost_name
  pub summary : new.summary.ghost_name ≡ old.summary.ghost_name
  pub size : length new.keys.now ≡ length old.keys.now

-- all lists are clear, of the sizes that m hashes need
abbrev pub Zero : ℕ → Work → Type 0
Zero m w = Clear m w.keys.now w.counts.now w.coords.now w.words.now w.summary.now

-- before the first item
abbrev pub BeginsIn : List ℕ → List ℕ → Work → Begun → Type 0
BeginsIn query hashes w r = Begins query hashes w.counts.now w.coords.now w.words.now w.summary.now r
