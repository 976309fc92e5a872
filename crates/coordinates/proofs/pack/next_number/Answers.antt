-- `coordinates::pack::next_number` meets its contract: 1 is added where the two differ. Assumes nothing.
use mathlib.Core.Path.{ap, ◌∙◌}
use Prim.Native.Nat.{ℕ, ◌+◌}
use Rattle.keys.proofs.Searching.{zero_where}
use Rattle.coordinates.proofs.pack.next_number.Goals as goal

pub returns : goal.returns
returns c = ap (λ (n : ℕ). c.args.c + n) (c.from.ensures ∙ zero_where _)
