-- What the answers of the expander say: by cases on the code's answer, an equation with the stage, and what stands in the lent bytes.
use Rattle.std.specs.Prelude.{ℕ, ◌+◌, ◌*◌, ◌≤◌, ◌≡◌, Bool, true, length, take, drop, Ok, Err}
use Rattle.stages.specs.Numbers.{row_limit}
use Rattle.stages.specs.Bytes.{Text, all, not_zero}
use Rattle.stages.specs.Outcome.{refused, demands, done}
use Rattle.stages.specs.Images.{held}
use Rattle.stages.specs.Syntax.{Parts}
use Rattle.stages.specs.Read.{Taken, parts}
use Rattle.stages.specs.Units.{Row}
use Rattle.stages.specs.Expand.{Made}
use Rattle.row.specs.Stands.{Stands}
use Rattle.table_store.specs.Holding.{Holds}
use Rattle.read_mode.specs.Modes.{mode_of, open_in}
use Rattle.read_mode.specs.declared.Mode.{Mode}
use Rattle.text.specs.Refusals.{refusal_number}
use Rattle.expand_add.specs.declared.answers.Stop.TheVariants.{Refused, Demanded}
use Rattle.expand_add.specs.Expanded.{Expanded}

-- the text from `at` on is read, no byte of it is zero, and there is room for its row and for those of the expansions that may open in it
pub record Ready (text : Text) (at : ℕ) (mode : Mode) (depth units size : ℕ) : Type 0 where
  pub start : at ≤ length text
  pub opens : open_in mode ≤ at
  pub few : units ≤ row_limit
  pub area : 2 * row_limit * (depth + 1) ≤ size + 2 * units
  pub clean : all not_zero text ≡ true
  pub tree : Parts
  pub rest : Text
  pub is : parts (mode_of mode) depth (drop at text) ≡ done (tree, rest)

-- the row is made and fits after the units before it, and whether `$@` of no parameters came in it is said; it stands in the area, and the variables in
-- their bytes
pub record IsRow (varsRoom units : ℕ) (made : Made) (area vars : Text) (count vars_used : ℕ) (of_none : Bool) : Type 0 where
  pub row : Row
  pub is : made ≡ done (row, held (take vars_used vars), of_none)
  pub counts : length row ≡ count
  pub stands : Stands row area
  pub fits : units + count ≤ row_limit
  pub holds : Holds varsRoom vars vars_used

-- a message waits in an area: its bytes are the `len` from `at` on
pub record Waits (t area : Text) (at len : ℕ) : Type 0 where
  pub is : t ≡ take len (drop at area)
  pub fits : at + len ≤ length area

-- E7: a missing value was demanded, and the message waits in the area
pub record IsDemand (made : Made) (area : Text) (at len : ℕ) : Type 0 where
  pub message : Text
  pub is : made ≡ demands message
  pub waits : Waits message area at len

-- what is after the text stands at `next`
pub record Ends (text : Text) (at next : ℕ) (rest : Text) : Type 0 where
  pub ends : drop next text ≡ rest
  pub onward : at ≤ next
  pub within : next ≤ length text

abbrev pub Answers : ℕ → Text → ℕ → ℕ → Made → Text → Text → Text → Expanded → Type 0
Answers varsRoom text at units made rest area vars (Err (Refused e)) = made ≡ refused (refusal_number e)
Answers varsRoom text at units made rest area vars (Ok r) =
    IsRow varsRoom units made area vars r.units r.vars_used r.of_none × Ends text at r.next rest
Answers varsRoom text at units made rest area vars (Err (Demanded from len)) = IsDemand made area from len

-- the answer of a text that is read as `o`, of whose parts `own` is made; reading demands nothing
abbrev pub Says : ℕ → Text → ℕ → ℕ → (Parts → Made) → Taken → Text → Text → Expanded → Type 0
Says varsRoom text at units own (refused e) area vars r = Unit {0}
Says varsRoom text at units own (demands t) area vars r = Unit {0}
Says varsRoom text at units own (done p) area vars r = Answers varsRoom text at units (own p.0) p.1 area vars r

-- the same where a leaf hands the place on
abbrev pub Finishes : ℕ → ℕ → Made → ℕ → Text → Text → Expanded → Type 0
Finishes varsRoom units made next area vars (Err (Refused e)) = made ≡ refused (refusal_number e)
Finishes varsRoom units made next area vars (Ok r) =
    (r.next ≡ next) × IsRow varsRoom units made area vars r.units r.vars_used r.of_none
Finishes varsRoom units made next area vars (Err (Demanded at len)) = IsDemand made area at len
