-- The parts of a row between its break marks, where they stand in bytes.
use Rattle.std.specs.Prelude.{ℕ, ◌+◌, ◌*◌, ◌≤◌, ◌≡◌, List, [], ◌∷◌, length}
use Rattle.stages.specs.Bytes.{Text, part}
use Rattle.stages.specs.Units.{Row}
use Rattle.stages.specs.Split.{broken}
use Rattle.text.specs.Rows.{row_of}
use Rattle.split_delimiter.specs.Places.{ahead}

-- the parts behind the first, by the units from its end on: they begin with a break mark, or there are none
unfoldable pub behind_break : Row → List Row
unfolding broken
behind_break [] = []
behind_break (c ∷ r) = broken r

-- the part at a place ends at r, whole units behind it
pub record PartEnds (row : Text) (at r : ℕ) : Type 0 where
  pub onward : at ≤ r
  pub within : r ≤ length row
  pub far : r ≡ at + 2 * length (row_of (part row at r))
  pub is : broken (ahead row at) ≡ row_of (part row at r) ∷ behind_break (ahead row r)
