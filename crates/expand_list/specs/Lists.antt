-- The texts of an image with a gap between them, as units and as bytes of a row.
use Rattle.std.specs.Prelude.{ℕ, ◌≡◌, [], ◌∷◌, length}
use Rattle.stages.specs.Bytes.{Text}
use Rattle.stages.specs.Images.{held_texts}
use Rattle.stages.specs.Units.{Mark, Q, cell, N, B, Row}
use Rattle.stages.specs.Expand.{between}
use Rattle.expand_list.specs.declared.Gap.{Gap}
use Rattle.expand_list.specs.declared.Gap.TheVariants.{Break, BreakEmpty, Byte, Nothing}

-- a gap as units
abbrev pub gap_row : Gap → Row
gap_row Break = B ∷ []
gap_row BreakEmpty = B ∷ N ∷ []
gap_row (Byte b) = cell Q b ∷ []
gap_row Nothing = []

-- so many units, whatever the gap and the mark are
pub record Counts (t : Text) (gap r : ℕ) : Type 0 where
  pub is : (g : Row) (m : Mark) → length g ≡ gap → r ≡ length (between g m (held_texts t))
