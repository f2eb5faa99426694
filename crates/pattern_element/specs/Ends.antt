-- The search for the end of a bracket: what one step of it meets, and the ends of a pattern's brackets in a table with an entry for each unit, what the
-- search finds that is at this unit and behind its first member.
use Rattle.std.specs.Prelude.{ℕ, ◌+◌, ◌*◌, ◌/◌, ◌≤◌, ◌<◌, ◌≡◌, Bool, false, List, length, drop, get_or, Option, Some, None, Result, Ok, Err}
use Rattle.stages.specs.Bytes.{Text}
use Rattle.stages.specs.Pattern.{Found, refusing, unclosed, closed_after, find}
use Rattle.pattern_unit.specs.Widths.{size, signs_by}
use Rattle.pattern_unit.specs.declared.Width.{Width}
use Rattle.pattern_unit.specs.declared.Width.TheVariants.{Plain, Marked}
use Rattle.pattern_member.specs.declared.BadClass.{BadClass}
use Rattle.pattern_element.specs.declared.Step.{Step}
use Rattle.pattern_element.specs.declared.Step.TheVariants.{Fails, Closes, On}

-- the entries where a member is met that is 19, and where no end is; below them each entry is the place of the `]`
abbrev pub refusing_entry : ℕ
refusing_entry = 65534

abbrev pub unclosed_entry : ℕ
unclosed_entry = 65535

-- so many units have an entry
abbrev pub units_limit : ℕ
units_limit = 2048

-- what a search finds: the place of the `]`, or no end; or it met a member that is 19
abbrev pub End : Type 0
End = Result (Option ℕ) BadClass

-- what it finds behind k bytes that it has passed
abbrev pub end_of : Width → ℕ → Found → End
end_of w k refusing = Err record {}
end_of w k unclosed = Ok None
end_of w k (closed_after n) = Ok (Some (k + size w * n))

-- what the search from a place on finds
abbrev pub sought_from : Width → Bool → Bool → Text → ℕ → End
sought_from w path first p k = end_of w k (find path first 0 (signs_by w (drop k p)))

-- it goes on at a later unit
pub record Goes (w : Width) (path first : Bool) (p : Text) (at next : ℕ) : Type 0 where
  pub units : ℕ
  pub is : next ≡ at + size w * units
  pub further : at < next
  pub inside : next ≤ length p
  pub same : sought_from w path first p at ≡ sought_from w path false p next

-- what one step of it says
abbrev pub StepSays : Width → Bool → Bool → Text → ℕ → Result Step BadClass → Type 0
StepSays w path first p at (Err e) = sought_from w path first p at ≡ Err e
StepSays w path first p at (Ok Fails) = sought_from w path first p at ≡ Ok None
StepSays w path first p at (Ok Closes) = sought_from w path first p at ≡ Ok (Some at)
StepSays w path first p at (Ok (On next)) = Goes w path first p at next

-- the entry for what it finds
abbrev pub entry : End → ℕ
entry (Err e) = refusing_entry
entry (Ok None) = unclosed_entry
entry (Ok (Some n)) = n

abbrev pub entry_of : Width → ℕ → Found → ℕ
entry_of w k f = entry (end_of w k f)

-- how many units stand before a place
abbrev pub unit_of : Width → ℕ → ℕ
unit_of Plain at = at
unit_of Marked at = at / 2

-- the entry of a unit
abbrev pub end_by : Width → Bool → Text → ℕ → ℕ
end_by w path p q = entry_of w (size w * q) (find path false 0 (signs_by w (drop (size w * q) p)))

-- the table has an entry for each unit of the pattern
pub record Roomy (w : Width) (p : Text) (ends : List ℕ) : Type 0 where
  pub room : length p ≤ size w * length ends
  pub few : length ends ≤ units_limit

-- a unit begins at the place, and for each unit beyond it the table is right
pub record Ended (w : Width) (path : Bool) (p : Text) (ends : List ℕ) (at : ℕ) : Type 0 where
  pub roomy : Roomy w p ends
  pub unit : at ≡ size w * unit_of w at
  pub beyond : (q : ℕ) → at < size w * q → size w * q + size w ≤ length p → get_or ends q 0 ≡ end_by w path p q

-- there is no table, or it serves this place
abbrev pub Served : Width → Bool → Text → List ℕ → ℕ → Type 0
Served w path p ends at = 0 < length ends → Ended w path p ends at

-- the table is right for each unit; what stands behind these entries is kept
pub record Fills (w : Width) (path : Bool) (p : Text) (entry exit : List ℕ) : Type 0 where
  pub same : length exit ≡ length entry
  pub right : (q : ℕ) → size w * q + size w ≤ length p → get_or exit q 0 ≡ end_by w path p q
  pub kept : (q : ℕ) → length p < size w * q + size w → get_or exit q 0 ≡ get_or entry q 0
