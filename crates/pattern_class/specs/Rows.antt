-- The stage's classes by their rows, and what it is to find a class behind a `[`.
use Rattle.std.specs.Prelude.{ℕ, ◌+◌, ◌*◌, ◌≤◌, ◌<◌, ◌≡◌, false, [], length, drop, get_or, Option, Some, None}
use Rattle.std.proofs.Math.Option.{none, some}
use Rattle.stages.specs.Bytes.{Text}
use Rattle.stages.specs.Classes.{NamedClass, classes, written}
use Rattle.stages.specs.Pattern.{class_at}
use Rattle.pattern_unit.specs.Widths.{size, signs_by}
use Rattle.pattern_unit.specs.declared.Width.{Width}

-- how many rows there are
abbrev pub count : ℕ
count = 12

-- behind the last row there is no class
abbrev pub nameless : NamedClass
nameless = record { name = []; holds = λ b. false }

-- the class of a row
abbrev pub row_class : ℕ → NamedClass
row_class row = get_or classes row nameless

-- the row's class is the one that stands at a place, and stands there whole
pub record FindsRow (w : Width) (p : Text) (at row : ℕ) : Type 0 where
  pub listed : row < count
  pub is : class_at classes (signs_by w (drop at p)) ≡ some (row_class row)
  pub inside : at + size w * length (written (row_class row)) ≤ length p

abbrev pub Finds : Width → Text → ℕ → Option ℕ → Type 0
Finds w p at (Some row) = FindsRow w p at row
Finds w p at None = class_at classes (signs_by w (drop at p)) ≡ none
