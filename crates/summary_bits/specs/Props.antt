-- That a summary holds has one proof at most, so that a struct can keep it as a fact.
use Rattle.std.specs.Prelude.{List, ℕ}
use Rattle.std.specs.Coded.{Coded-set, coded_ℕ, Π_prop}
use Rattle.summary_bits.specs.Summary.{Summary}

pub Summary-prop : (ws ss : List ℕ) → IsProp (Summary ws ss)
unfolding Summary
Summary-prop ws ss = Π_prop (λ j. Coded-set coded_ℕ _ _)
