-- `float_of` answers the one NaN for every NaN's pattern, and takes the bits of any other as they stand.
use mathlib.Core.Path.{refl, sym, ◌∙◌}
use Rattle.float_bits.proofs.Nans.{made, above, below}
use Rattle.float_bits.proofs.float_of.Goals as goal

pub returns-then-bits-gt-INFINITY : goal.returns-then-bits-gt-INFINITY
returns-then-bits-gt-INFINITY c = made ∙ sym (above _ c.if-bits-gt-INFINITY.true)

pub float_from_bits-result : goal.float_from_bits-result
float_from_bits-result c = below _ c.if-bits-gt-INFINITY.false

pub returns : goal.returns
returns c = refl
