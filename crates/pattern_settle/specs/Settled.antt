-- What settling a pattern says: its cells stand for its elements, or a class refuses it, or its sets are too many for the table.
use Rattle.std.specs.Prelude.{ℕ, ◌*◌, ◌≤◌, ◌<◌, ◌≡◌, Bool, true, false, List, length, take, Result, Ok, Err}
use Rattle.stages.specs.Bytes.{Text}
use Rattle.stages.specs.Pattern.{elements, has_class}
use Rattle.stages.specs.Paths.{active}
use Rattle.pattern_unit.specs.Widths.{size, signs_by}
use Rattle.pattern_unit.specs.declared.Width.{Width}
use Rattle.pattern_cell.specs.Cells.{Shows}
use Rattle.pattern_settle.specs.declared.Settled.{Settled}
use Rattle.pattern_settle.specs.declared.SettleError.{SettleError}
use Rattle.pattern_settle.specs.declared.SettleError.TheVariants.{BadClass, NoRoom}

-- so many cells stand for the elements of the pattern, and whether one of them is other than a byte
pub record Settles (w : Width) (path : Bool) (p : Text) (cells sets : List ℕ) (count : ℕ) (special : Bool) : Type 0 where
  pub served : has_class path 0 (signs_by w p) ≡ false
  pub inside : count ≤ length cells
  pub shows : Shows sets (take count cells) (elements path 0 (signs_by w p))
  pub active : special ≡ active (elements path 0 (signs_by w p))

-- A set has three units at the least: `[`, a member, `]`.
abbrev pub SettleSays : Width → Bool → Text → List ℕ → List ℕ → Result Settled SettleError → Type 0
SettleSays w path p cells sets (Err BadClass) = has_class path 0 (signs_by w p) ≡ true
SettleSays w path p cells sets (Err NoRoom) = 3 * (size w * length sets) < 4 * length p
SettleSays w path p cells sets (Ok r) = Settles w path p cells sets r.count r.special
