-- What one element of a pattern becomes: its cell, behind those of the elements before it.
use Rattle.std.specs.Prelude.{ℕ, ◌+◌, ◌*◌, ◌≤◌, ◌<◌, ◌≡◌, Bool, true, false, ◌||◌, List, ◌++◌, length, take, Result, Ok, Err}
use Rattle.stages.specs.Bytes.{Text}
use Rattle.pattern_unit.specs.declared.Width.{Width}
use Rattle.pattern_element.specs.Pieces.{element_of, is_refusing_piece, sets_in}
use Rattle.pattern_element.specs.declared.Piece.{Piece}
use Rattle.pattern_element.specs.declared.Piece.TheVariants.{Star, One, Byte, Refusing, Set}
use Rattle.pattern_cell.specs.Cells.{Is}
use Rattle.pattern_settle.specs.declared.Cell.{Cell}
use Rattle.pattern_settle.specs.declared.SettleError.{SettleError}
use Rattle.pattern_settle.specs.declared.SettleError.TheVariants.{BadClass, NoRoom}

-- more sets than a pattern has
abbrev pub sets_limit : ℕ
sets_limit = 2048

-- an active `*`, `?` or closed bracket
abbrev pub is_special : Piece → Bool
is_special Star = true
is_special One = true
is_special (Byte b) = false
is_special Refusing = false
is_special (Set negative from to) = true

-- the cell stands for the element by the table's sets, to which those before it have grown
pub record Celled (w : Width) (p : Text) (piece : Piece) (used : ℕ) (special : Bool) (entry exit : List ℕ) (cell : ℕ) (marked : Bool) (next : ℕ) : Type 0 where
  pub served : is_refusing_piece piece ≡ false
  pub is : Is (take (4 * next) exit) cell (element_of w p piece)
  pub marks : marked ≡ (special || is_special piece)
  pub counts : next ≡ used + sets_in piece
  pub room : 4 * next ≤ length exit
  pub added : List ℕ
  pub grown : take (4 * next) exit ≡ take (4 * used) entry ++ added

abbrev pub CellSays : Width → Text → Piece → ℕ → Bool → List ℕ → List ℕ → Result Cell SettleError → Type 0
CellSays w p piece used special entry exit (Err BadClass) = is_refusing_piece piece ≡ true
CellSays w p piece used special entry exit (Err NoRoom) = (sets_in piece ≡ 1) × (length exit < 4 * used + 4)
CellSays w p piece used special entry exit (Ok r) = Celled w p piece used special entry exit r.cell r.special r.used
