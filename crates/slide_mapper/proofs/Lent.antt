-- From the moves over the struct of lent lists to those over the lists. That the lists agree is known of each such struct.
use mathlib.Core.Path.{◌≡◌, refl, sym, ap, ◌∙◌}
use Prim.Native.Nat.{ℕ}
use lib.ListN.{length, length-set}
use Rattle.base.specs.declared.Slide.{Slide}
use Rattle.slide_mapper.specs.declared.lists.MapperLists.{MapperLists}
use Rattle.slide_mapper.specs.State.{Ready, Inserted, Deleted}
use Rattle.slide_mapper.specs.Lent.{SameLists, AtPivot, Entered, Left}
use Rattle.slide_mapper.proofs.State.{counts_length}

pub ready_in : {m : MapperLists} {at : Slide} → AtPivot m at → Ready m.counts.now m.words.now m.summary.now at
ready_in {m} a = record { held = m.held; slid = a.slid }

module _ {m : MapperLists} {at : Slide} {i : ℕ} {n : MapperLists} {r : Slide} where
  pub inserted_in : Entered m at i n r → Inserted m.counts.now m.words.now m.summary.now at i n.counts.now n.words.now n.summary.now r
  inserted_in e = record { counts = e.counts; slide = e.slide; held = n.held }

  pub deleted_in : Left m at i n r → Deleted m.counts.now m.words.now m.summary.now at i n.counts.now n.words.now n.summary.now r
  deleted_in e = record { counts = e.counts; flags = e.flags; slide = e.slide; held = n.held }

  pub entered_length : Entered m at i n r → length n.counts.now ≡ length m.counts.now
  entered_length e = ap length e.counts ∙ length-set _ _ _

  pub left_length : Left m at i n r → length n.counts.now ≡ length m.counts.now
  left_length e = sym (counts_length n.counts.now) ∙ ap length e.counts ∙ length-set _ _ _ ∙ counts_length m.counts.now

-- The same lists are lent on: by one that does nothing, and by two after each other.
pub same_none : (m : MapperLists) → SameLists m m
same_none m = record { counts = refl; words = refl; summary = refl }

pub same_on : {m n o : MapperLists} → SameLists m n → SameLists n o → SameLists m o
same_on a b = record { counts = b.counts ∙ a.counts; words = b.words ∙ a.words; summary = b.summary ∙ a.summary }
