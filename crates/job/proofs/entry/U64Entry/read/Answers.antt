-- `read` takes eight bytes as they stand.
use mathlib.Core.Path.{refl, ◌∙◌}
use Rattle.job.proofs.Numbers.{eight_at}
use Rattle.job.proofs.entry.U64Entry.read.Goals as goal

pub returns : goal.returns
returns c = c.from_le_bytes.ensures ∙ eight_at c.copy_from_slice.new.self c.args.unit.now c.args.offset 8 c.copy_from_slice.ensures.after c.requires refl
