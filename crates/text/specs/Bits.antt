-- Bits of words, as the code tests them.
use Rattle.std.specs.Prelude.{ℕ, ◌/◌, ◌%◌, ◌^◌, Bool, List, eqb, get_or}
use Rattle.std.specs.Int.Bits.{bit_and}

-- the bit of a number, the lowest at 0
abbrev pub bit_at : ℕ → ℕ → Bool
bit_at n k = eqb (bit_and (n / 2 ^ k) 1) 1

-- a byte's bit among 256, 64 to a word
abbrev pub has_bit : List ℕ → ℕ → Bool
has_bit words b = bit_at (get_or words (b / 64) 0) (b % 64)

-- the word of all bits
abbrev pub all_bits : ℕ
all_bits = 18446744073709551615
