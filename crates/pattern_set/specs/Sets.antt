-- A set of byte values as its 256 bits, in four words of 64.
use Rattle.std.specs.Prelude.{ℕ, ◌+◌, ◌/◌, ◌%◌, ◌^◌, ◌≡◌, Bool, List, ◌++◌, eqb, length, take, drop, get_or}

-- the bit of a word at a place, the lowest at 0
unfoldable pub bit : ℕ → ℕ → Bool
bit w i = eqb (w / 2 ^ i % 2) 1

-- whether the byte b is in the set of these words
abbrev pub has : List ℕ → ℕ → Bool
has words b = bit (get_or words (b / 64) 0) (b % 64)

-- four words written at a place of a table, all else in it kept
pub record PutsWords (words : List ℕ) (at : ℕ) (entry exit : List ℕ) : Type 0 where
  pub four : length words ≡ 4
  pub is : exit ≡ take at entry ++ (words ++ drop (at + 4) entry)
