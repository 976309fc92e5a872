-- The query and the active items as coordinate numbers, as the mapper's lists hold them.
use Rattle.std.specs.Prelude.{◌≡◌, Bool, false, List, ℕ, length, get_or}
use Rattle.base.specs.Lists.{times}
use Rattle.rules.specs.Lists.{filter, up_from}
use Rattle.slide_mapper.specs.State.{counts_of, Ready}
use Rattle.base.specs.declared.Slide.{Slide}

-- the query: the numbers whose flag is true
unfoldable pub asked : List Bool → List ℕ
asked ms = filter (λ i. get_or ms i false) (up_from 0 (length ms))

-- the lists are ready for a move, and count each active number as often as it stands among them
pub record Active (cs ws ss : List ℕ) (at : Slide) (ns : List ℕ) : Type 0 where
  pub ready : Ready cs ws ss at
  pub counts : (j : ℕ) → get_or (counts_of cs) j 0 ≡ times j ns
