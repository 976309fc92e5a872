-- `read` takes four bytes as they stand.
use mathlib.Core.Path.{refl, ◌∙◌}
use Rattle.job.proofs.Numbers.{four_at}
use Rattle.job.proofs.entry.U32Entry.read.Goals as goal

pub returns : goal.returns
returns c = c.from_le_bytes.ensures ∙ four_at c.copy_from_slice.new.self c.args.unit.now c.args.offset 4 c.copy_from_slice.ensures.after c.requires refl
