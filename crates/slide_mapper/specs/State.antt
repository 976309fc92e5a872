-- The mapper's state over its lent lists, and its moves as those of the rules.
use Rattle.std.specs.Prelude.{◌≡◌, Bool, List, map, ℕ, ◌+◌, ◌-◌, ◌*◌, ◌/◌, ◌%◌, ◌^◌, ◌≤◌, ◌<◌, min, eqb, length, get_or, set}
use Rattle.rules.specs.Moves.{insert_ref, delete_ref}
use Rattle.rules.specs.Moves as moves
use Rattle.rules.specs.Ranks.{either, mark, has, size, Slid}
use Rattle.summary_bits.specs.Bits.{bit, bit_at}
use Rattle.summary_bits.specs.Summary.{Fits, Summary}
use Rattle.base.specs.declared.Slide.{Slide}

-- a count word is twice the count, plus 1 where the hash is in the query
unfoldable pub flags_of : List ℕ → List Bool
flags_of cs = map (λ (w : ℕ). eqb (w % 2) 1) cs

unfoldable pub counts_of : List ℕ → List ℕ
counts_of cs = map (λ (w : ℕ). w / 2) cs

-- 1 where the hash is in the query and active, else 0
unfoldable pub shared_bit : List ℕ → ℕ → ℕ
shared_bit cs i = min (mark (flags_of cs) i) (has (counts_of cs) i)

-- the state of the rules that the lists hold
unfoldable pub slide_of : List ℕ → Slide → moves.Slide
slide_of cs at = record { counts = counts_of cs; pivot = at.pivot.0; shared = at.shared }

-- the bits are those of query or active, and the summary holds
pub record Held (cs ws ss : List ℕ) : Type 0 where
  pub small : length cs ≤ 2 ^ 16
  pub room : length cs ≤ length ws * 64
  pub fits : Fits ws ss
  pub bits : (j : ℕ) → bit_at ws j ≡ either (mark (flags_of cs)) (has (counts_of cs)) j
  pub summary : Summary ws ss

-- bit b of the word x is the count word from + b, of those before `end`, and 0 past them
pub record Gathered (cs : List ℕ) (from end x : ℕ) : Type 0 where
  pub inside : (b : ℕ) → from + b < end → bit x b ≡ get_or cs (from + b) 0
  pub past : (b : ℕ) → end ≤ from + b → bit x b ≡ 0

-- before the first item: flags in the count words and no count, a query that is not empty, and no bit
pub record Blank (cs ws ss : List ℕ) : Type 0 where
  pub small : length cs ≤ 2 ^ 16
  pub room : length cs ≤ length ws * 64
  pub fits : Fits ws ss
  pub flags : (j : ℕ) → get_or cs j 0 ≤ 1
  pub some : 0 < size (flags_of cs)
  pub words : (j : ℕ) → bit_at ws j ≡ 0
  pub summary : Summary ws ss

-- what a move asks: the lists agree, and the pivot is the union's k-th smallest with the shared count through it
pub record Ready (cs ws ss : List ℕ) (at : Slide) : Type 0 where
  pub held : Held cs ws ss
  pub slid : Slid (flags_of cs) (slide_of cs at)

-- the count is raised, the state is that of the rules' `insert_ref`, and the lists agree
pub record Inserted (cs ws ss : List ℕ) (at : Slide) (i : ℕ) (cs' ws' ss' : List ℕ) (r : Slide) : Type 0 where
  pub counts : cs' ≡ set cs i (get_or cs i 0 + 2)
  pub slide : slide_of cs' r ≡ insert_ref (flags_of cs) i (slide_of cs at)
  pub held : Held cs' ws' ss'

-- the count is lowered, at 0 nothing; likewise
pub record Deleted (cs ws ss : List ℕ) (at : Slide) (i : ℕ) (cs' ws' ss' : List ℕ) (r : Slide) : Type 0 where
  pub counts : counts_of cs' ≡ set (counts_of cs) i (get_or (counts_of cs) i 0 - 1)
  pub flags : flags_of cs' ≡ flags_of cs
  pub slide : slide_of cs' r ≡ delete_ref (flags_of cs) i (slide_of cs at)
  pub held : Held cs' ws' ss'
