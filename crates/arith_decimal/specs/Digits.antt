-- How much room a number's decimal text takes.
use Rattle.std.specs.Prelude.{ℕ}

-- the most bytes: those of -9223372036854775808 and of 18446744073709551615
abbrev pub most_digits : ℕ
most_digits = 20
