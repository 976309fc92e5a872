-- The mapper over its lent lists: what a move asks of them and leaves in them. That they agree is a ghost field of the struct.
use Rattle.std.specs.Prelude.{◌≡◌, ℕ, ◌+◌, ◌-◌, get_or, set}
use Rattle.rules.specs.Moves.{insert_ref, delete_ref}
use Rattle.rules.specs.Ranks.{Slid}
use Rattle.base.specs.declared.Slide.{Slide}
use Rattle.slide_mapper.specs.declared.lists.MapperLists.{MapperLists}
use Rattle.slide_mapper.specs.State.{flags_of, counts_of, slide_of}

-- the same lists are lent on: what the struct's lists hold, the caller's hold
pub record SameLists (old new : MapperLists) : Type 0 where
  pub counts : new.counts.ghost_name ≡ old.counts.ghost_name
  pub words : new.words.ghost_name ≡ old.words.ghost_name
  pub summary : new.summary.ghost_name ≡ old.summary.ghost_name

-- the pivot is the union's k-th smallest, with the shared count through it
pub record AtPivot (m : MapperLists) (at : Slide) : Type 0 where
  pub slid : Slid (flags_of m.counts.now) (slide_of m.counts.now at)

-- the count is raised, and the slide is that of the rules' `insert_ref`
pub record Entered (old : MapperLists) (at : Slide) (i : ℕ) (new : MapperLists) (r : Slide) : Type 0 where
  pub counts : new.counts.now ≡ set old.counts.now i (get_or old.counts.now i 0 + 2)
  pub slide : slide_of new.counts.now r ≡ insert_ref (flags_of old.counts.now) i (slide_of old.counts.now at)

-- the count is lowered, at 0 nothing; likewise
pub record Left (old : MapperLists) (at : Slide) (i : ℕ) (new : MapperLists) (r : Slide) : Type 0 where
  pub counts : counts_of new.counts.now ≡ set (counts_of old.counts.now) i (get_or (counts_of old.counts.now) i 0 - 1)
  pub flags : flags_of new.counts.now ≡ flags_of old.counts.now
  pub slide : slide_of new.counts.now r ≡ delete_ref (flags_of old.counts.now) i (slide_of old.counts.now at)
