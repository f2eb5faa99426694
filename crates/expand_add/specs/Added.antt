-- A row that is to be added to the units before it: it stands at the front of the area, or it is refused.
use Rattle.std.specs.Prelude.{ℕ, ◌+◌, ◌≤◌, ◌≡◌, Bool, leb, length, Ok, Err}
use Rattle.stages.specs.Numbers.{row_limit}
use Rattle.stages.specs.Bytes.{Text}
use Rattle.stages.specs.Outcome.{Outcome, refused, done, ◌>>=◌, pick}
use Rattle.stages.specs.Units.{Row, expanded_mark as asExpanded, fit}
use Rattle.row.specs.Marks.{mark_of}
use Rattle.text.specs.Rows.{row_bytes}
use Rattle.text.specs.Refusals.{refusal_number}
use Rattle.text.specs.declared.refusal.Refusal.TheVariants.{TooManyUnits}
use Rattle.row.specs.Stands.{fronted, Stands}
use Rattle.row.specs.declared.RowEnd.{RowEnd}
use Rattle.expand_add.specs.declared.answers.Onward.{Onward}
use Rattle.expand_add.specs.declared.answers.Stop.TheVariants.{Refused, Demanded}
use Rattle.expand_add.specs.Expanded.{Expanded, row_on}

-- the same end of a row, where what is expanded gets its mark
pub record EndsExpanded (row r : RowEnd) : Type 0 where
  pub mark : mark_of r.mark ≡ asExpanded (mark_of row.mark)
  pub units : r.units ≡ row.units

-- the row that was worked out has so many units, stands at the front and fits after the units before it; the text goes on as it was to
pub record Fitting (units : ℕ) (on : Onward) (o : Outcome Row) (area : Text) (count next vars_used : ℕ) (of_none : Bool) : Type 0 where
  pub row : Row
  pub is : o ≡ done row
  pub counts : length row ≡ count
  pub stands : Stands row area
  pub fits : units + count ≤ row_limit
  pub onward : next ≡ on.next
  pub keeps : vars_used ≡ on.vars_used
  pub tells : of_none ≡ on.of_none

-- "each byte, mark or whole expansion is worked out before it is added, and what would pass the limit is 14"
unfoldable pub measured : ℕ → Outcome Row → Outcome Row
unfolding fit
measured units o = o >>= λ r. fit units (length r) >>= λ i. done r

-- what is added alone demands nothing
abbrev pub Adds : ℕ → Onward → Outcome Row → Text → Expanded → Type 0
Adds units on o area (Ok r) = Fitting units on o area r.units r.next r.vars_used r.of_none
Adds units on o area (Err (Refused e)) = measured units o ≡ refused (refusal_number e)
Adds units on o area (Err (Demanded at len)) = ⊥

-- the bytes then: the row at the front and all behind it as it was, or all as they were
abbrev pub left_with : Row → Text → Expanded → Text
left_with row old (Ok r) = fronted (row_bytes row) old
left_with row old (Err stop) = old

-- a row that is there whole is added, and no byte of the area but its own is touched
pub record AddsTo (units : ℕ) (on : Onward) (row : Row) (old area : Text) (r : Expanded) : Type 0 where
  pub adds : Adds units on (done row) area r
  pub leaves : area ≡ left_with row old r

-- so many units after those before them
abbrev pub admitted : ℕ → Onward → ℕ → Expanded
admitted units on count = pick (leb (units + count) row_limit) (Ok (row_on on count)) (Err (Refused TooManyUnits))
