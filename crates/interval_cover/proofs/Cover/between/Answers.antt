-- `between` is the stretch of the rules, whose end is before the next key.
use native.Mathlib.Omega.{arith}
use Rattle.interval_cover.proofs.Sweeping.{not_first}
use Rattle.interval_cover.proofs.Cover.between.Goals as goal

pub overflow_sub-result : goal.overflow_sub-result
overflow_sub-result c = omega (arith, c.at_of-2.ensures, not_first c.requires)
