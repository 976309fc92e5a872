-- The summary of a list of words: a bit for each word.
use Rattle.std.specs.Prelude.{◌≡◌, List, ℕ, ◌*◌, ◌/◌, ◌%◌, ◌^◌, ◌≤◌, min, eqb, length, get_or}
use Rattle.base.specs.Pick.{pick}
use Rattle.summary_bits.specs.Bits.{bit_at, off_bit, with_on, with_off}

-- summary bit j is 1 exactly when word j is not 0 (past the end of the words both are 0)
unfoldable pub Summary : List ℕ → List ℕ → Type 0
Summary ws ss = (j : ℕ) → bit_at ss j ≡ min (get_or ws j 0) 1

-- the summary has a bit for each word, and the number of every bit fits a coordinate
pub record Fits (ws ss : List ℕ) : Type 0 where
  pub room : length ws ≤ length ss * 64
  pub small : length ws ≤ 2 ^ 26

-- the summary after bit i is set in the words ws: where the word was 0, its summary bit goes on
unfoldable pub raised : List ℕ → List ℕ → ℕ → List ℕ
raised ws ss i = pick (eqb (get_or ws (i / 64) 0) 0) (with_on ss (i / 64)) ss

-- the summary after bit i is cleared: where the word becomes 0, its summary bit goes off
unfoldable pub lowered : List ℕ → List ℕ → ℕ → List ℕ
lowered ws ss i = pick (eqb (off_bit (get_or ws (i / 64) 0) (i % 64)) 0) (with_off ss (i / 64)) ss
