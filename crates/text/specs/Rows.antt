-- How a row of units stands in lent bytes: a unit is two bytes, its byte and behind it its mark; the empty mark is two zeros, the break
-- mark a zero and a 4.
use Rattle.std.specs.Prelude.{ℕ, Bool, true, false, ◌||◌, [], ◌∷◌, eqb}
use Rattle.stages.specs.Bytes.{Text}
use Rattle.stages.specs.Outcome.{pick}
use Rattle.stages.specs.Units.{Mark, L, E, Q, Cell, cell, N, B, Row}
use Rattle.stages.specs.Pattern.{Signs}

-- a mark as a byte; no mark is the zero that N has or the 4 of B
abbrev pub mark_byte : Mark → ℕ
mark_byte L = 1
mark_byte E = 2
mark_byte Q = 3

-- a byte that stands for a mark
abbrev pub is_mark : ℕ → Bool
is_mark b = eqb b 1 || (eqb b 2 || eqb b 3)

-- the bytes of a row
unfoldable pub row_bytes : Row → Text
row_bytes [] = []
row_bytes (cell m b ∷ r) = b ∷ mark_byte m ∷ row_bytes r
row_bytes (N ∷ r) = 0 ∷ 0 ∷ row_bytes r
row_bytes (B ∷ r) = 0 ∷ 4 ∷ row_bytes r

-- the unit of a byte and the byte behind it; what is no mark is N
unfoldable pub unit_of : ℕ → ℕ → Cell
unit_of b m = pick (eqb m 1) (cell L b) (pick (eqb m 2) (cell E b) (pick (eqb m 3) (cell Q b) (pick (eqb m 4) B N)))

-- the row that any bytes stand for; an odd last byte counts for nothing
unfoldable pub row_of : Text → Row
unfolding unit_of
row_of [] = []
row_of (b ∷ []) = []
row_of (b ∷ m ∷ t) = unit_of b m ∷ row_of t

-- the same bytes as patterns see them where N units are gone, and no break marks come: Q bytes stand for themselves, all others are active
unfoldable pub signs_of : Text → Signs
signs_of [] = []
signs_of (b ∷ []) = []
signs_of (b ∷ m ∷ t) = record { live = pick (eqb m 3) false true; byte = b } ∷ signs_of t
