-- Rows at the front of lent bytes.
use Rattle.std.specs.Prelude.{ℕ, ◌≡◌, ◌++◌, length, drop}
use Rattle.stages.specs.Bytes.{Text}
use Rattle.stages.specs.Units.{Row, bytes}
use Rattle.text.specs.Rows.{row_bytes, row_of}

-- the row stands at the front of the area
pub record Stands (row : Row) (area : Text) : Type 0 where
  pub rest : Text
  pub is : area ≡ row_bytes row ++ rest

-- a text stands at the front of what was there before
abbrev pub fronted : Text → Text → Text
fronted t area = t ++ drop (length t) area

-- the bytes of a row without marks are left at its front, and counted
pub record Stripped (row left : Text) (count : ℕ) : Type 0 where
  pub counts : count ≡ length (bytes (row_of row))
  pub leaves : left ≡ fronted (bytes (row_of row)) row
