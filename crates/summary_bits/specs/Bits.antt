-- Bits of a number and of a list of 64-bit words.
use Rattle.std.specs.Prelude.{List, ℕ, ◌-◌, ◌/◌, ◌%◌, ◌^◌, get_or, set}
use Rattle.std.specs.Int.Bits.{bit_and, bit_or}

-- bit b of the number x: 0 or 1
unfoldable pub bit : ℕ → ℕ → ℕ
bit x b = x / 2 ^ b % 2

-- bit i of the list of words: 0 past its end
unfoldable pub bit_at : List ℕ → ℕ → ℕ
bit_at ws i = bit (get_or ws (i / 64) 0) (i % 64)

-- the word x with bit b on, and with bit b off
unfoldable pub on_bit : ℕ → ℕ → ℕ
on_bit x b = bit_or x (2 ^ b)

unfoldable pub off_bit : ℕ → ℕ → ℕ
off_bit x b = bit_and x (2 ^ 64 - 1 - 2 ^ b)

-- the list with bit i on, and with bit i off
unfoldable pub with_on : List ℕ → ℕ → List ℕ
with_on ws i = set ws (i / 64) (on_bit (get_or ws (i / 64) 0) (i % 64))

unfoldable pub with_off : List ℕ → ℕ → List ℕ
with_off ws i = set ws (i / 64) (off_bit (get_or ws (i / 64) 0) (i % 64))
