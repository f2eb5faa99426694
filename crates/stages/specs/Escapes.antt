-- Document 02, E12: what stands behind a backslash in `$'...'`. Octal and hexadecimal digits are arithmetic's, by the one definition of digits in a base.
use Rattle.std.specs.Prelude.{ℕ, ◌+◌, List, [], ◌∷◌, eqb, length, take}
use Prim.Native.Char.{code}
use Rattle.std.proofs.Math.Option.{Option, none, some}
use Rattle.stages.specs.Numbers.{unended, bad_syntax}
use Rattle.stages.specs.Bytes.{Text, between, span}
use Rattle.stages.specs.Outcome.{pick}
use Rattle.stages.specs.Constants.{is_digit_in, in_base}

-- what an escape says: a byte, and how many bytes behind the backslash it takes; or the number that refuses it
pub data Said : Type 0 where
  says : ℕ → ℕ → Said
  unsaid : ℕ → Said

-- "`\"`, `\'`, `\\`, `\a`, `\b`, `\e`, `\f`, `\n`, `\r`, `\t`, `\v`": each sign, and the byte that it says
unfoldable pub letters : List (ℕ × ℕ)
letters =
    (code "\"", 34)
    ∷ (code "'", 39)
    ∷ (code "\\", 92)
    ∷ (code "a", 7)
    ∷ (code "b", 8)
    ∷ (code "e", 27)
    ∷ (code "f", 12)
    ∷ (code "n", 10)
    ∷ (code "r", 13)
    ∷ (code "t", 9)
    ∷ (code "v", 11)
    ∷ []

-- the byte that a sign says; 0, which no escape may say, where the table has no such sign
unfoldable pub letter_of : ℕ → List (ℕ × ℕ) → ℕ
letter_of b [] = 0
letter_of b (p ∷ l) = pick (eqb b p.0) p.1 (letter_of b l)

-- "A zero byte, an octal value above 255 or another escape is 11."
unfoldable pub says_byte : ℕ → ℕ → Said
says_byte n k = pick (between 1 n 255) (says n k) (unsaid bad_syntax)

-- the same of what digits stand for. Never asked: none, since a run of digits has no other byte
unfoldable pub says_number : Option ℕ → ℕ → Said
unfolding says_byte
says_number none k = unsaid bad_syntax
says_number (some n) k = says_byte n k

-- "Digits run as long as they may": those of the base at the head of a text, so many at most
unfoldable pub digit_run : ℕ → ℕ → Text → Text
unfolding is_digit_in span
digit_run base most t = (span (is_digit_in base) (take most t)).0

-- what a run of digits says, which begins behind k bytes
unfoldable pub says_digits : ℕ → ℕ → Text → Said
unfolding says_number in_base
says_digits base k t = says_number (in_base base 0 t) (k + length t)

-- behind `\x`: "with one or two hexadecimal digits"
unfoldable pub behind_x : Text → Said
unfolding is_digit_in digit_run says_digits
behind_x [] = unsaid unended
behind_x (b ∷ t) = pick (is_digit_in 16 b) (says_digits 16 1 (digit_run 16 2 (b ∷ t))) (unsaid bad_syntax)

-- behind a backslash: a sign, `x`, "and one to three octal digits"
unfoldable pub escape_at : Text → Said
unfolding is_digit_in digit_run says_digits says_byte behind_x letters letter_of
escape_at [] = unsaid unended
escape_at (b ∷ t) =
    pick (eqb b (code "x")) (behind_x t)
    (pick (is_digit_in 8 b) (says_digits 8 0 (digit_run 8 3 (b ∷ t))) (says_byte (letter_of b letters) 1))
