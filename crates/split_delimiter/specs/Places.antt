-- Where a walk over the units of a row stands: what is ahead of a place, and which places lie behind what is dropped.
use Rattle.std.specs.Prelude.{ℕ, ◌+◌, ◌*◌, ◌≤◌, ◌≡◌, Bool, true, false, [], ◌∷◌, ltb, length, drop}
use Rattle.stages.specs.Bytes.{Text}
use Rattle.stages.specs.Outcome.{pick}
use Rattle.stages.specs.Units.{Row}
use Rattle.stages.specs.Split as stage
use Rattle.text.specs.Rows.{row_of}
use Rattle.split_delimiter.specs.declared.Delimiter.{Delimiter}
use Rattle.split_delimiter.specs.declared.Delimiter.TheVariants.{White, Hard, Other}

-- the code's kinds of unit as the stage's
abbrev pub delimiter_of : Delimiter → stage.Delimiter
delimiter_of White = stage.white
delimiter_of Hard = stage.hard
delimiter_of Other = stage.other

-- the units of a row from a place on
abbrev pub ahead : Text → ℕ → Row
ahead row at = row_of (drop at row)

-- what the first unit is; no unit is no delimiter
unfoldable pub first : Text → Row → stage.Delimiter
unfolding stage.delimiter
first ifs [] = stage.other
first ifs (c ∷ r) = stage.delimiter ifs c

abbrev pub is_other : stage.Delimiter → Bool
is_other stage.white = false
is_other stage.hard = false
is_other stage.other = true

-- "the longest run of other units" goes on with the first
unfoldable pub goes_on : Text → Row → Bool
unfolding stage.delimiter
goes_on ifs [] = false
goes_on ifs (c ∷ r) = is_other (stage.delimiter ifs c)

-- the highest of a number and a text's bytes
unfoldable pub highest : ℕ → Text → ℕ
highest top [] = top
highest top (b ∷ t) = highest (pick (ltb top b) b top) t

-- the place `to`, whole units behind `at`, has these units ahead of it
pub record Reaches (row : Text) (at to : ℕ) (r : Row) : Type 0 where
  pub passed : ℕ
  pub far : to ≡ at + 2 * passed
  pub within : to ≤ length row
  pub units : ahead row to ≡ r
