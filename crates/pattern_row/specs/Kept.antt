-- A row without the units that are no bytes: what the first pass over a pattern leaves.
use Rattle.std.specs.Prelude.{ℕ, ◌≡◌, [], ◌∷◌, ◌++◌, length, drop}
use Rattle.stages.specs.Bytes.{Text}
use Rattle.stages.specs.Units.{cell, N, B, Row}
use Rattle.stages.specs.Pattern.{signs}
use Rattle.text.specs.Rows.{row_bytes, row_of, signs_of}

-- "N vanishes", and a break mark likewise, of which none comes to a pattern
unfoldable pub without_empty : Row → Row
without_empty [] = []
without_empty (cell m b ∷ r) = cell m b ∷ without_empty r
without_empty (N ∷ r) = without_empty r
without_empty (B ∷ r) = without_empty r

-- the bytes of a row's units that stay
unfoldable pub kept : Text → Text
unfolding without_empty row_bytes row_of
kept t = row_bytes (without_empty (row_of t))

-- no unit is N: patterns see each
pub record NoEmpty (t : Text) : Type 0 where
  pub seen : signs_of t ≡ signs (row_of t)

-- they stand at the front, and behind them stands what stood there
pub record Dropped (entry exit : Text) (count : ℕ) : Type 0 where
  pub stands : exit ≡ kept entry ++ drop (length (kept entry)) entry
  pub counts : count ≡ length (kept entry)
