-- What the answer of one item says: its own row, and after it what is still to be expanded.
use Rattle.std.specs.Prelude.{ℕ, suc, ◌+◌, ◌≤◌, ◌<◌, ◌≡◌, Bool, true, false, ◌&&◌, [], eqb, leb, length, take, drop, Ok, Err}
use Rattle.stages.specs.Numbers.{row_limit}
use Rattle.stages.specs.Bytes.{Text}
use Rattle.stages.specs.Outcome.{refused, demands, done, pick}
use Rattle.stages.specs.Images.{Pairs, held}
use Rattle.stages.specs.Syntax.{Parts}
use Rattle.stages.specs.Read.{Taken, parts}
use Rattle.stages.specs.Units.{Mark, Row, marked}
use Rattle.stages.specs.Params.{Lent}
use Rattle.stages.specs.Expand.{Made, expand, onto}
use Rattle.row.specs.Marks.{mark_of}
use Rattle.text.specs.Rows.{row_bytes}
use Rattle.row.specs.Stands.{Stands, fronted}
use Rattle.row.specs.declared.RowEnd.{RowEnd}
use Rattle.read_mode.specs.Modes.{mode_of, open_in}
use Rattle.read_mode.specs.declared.Mode.{Mode}
use Rattle.read_mode.specs.declared.Cursor.{Cursor}
use Rattle.read_mode.specs.declared.Form.{Form}
use Rattle.read_mode.specs.declared.Form.TheVariants as form
use Rattle.read_brace.specs.declared.Item.{Item}
use Rattle.read_item.specs.After.{mode_after, is_stop}
use Rattle.table_store.specs.Holding.{Holds}
use Rattle.expand_add.specs.Answers.{IsDemand, Ends}
use Rattle.text.specs.Refusals.{refusal_number}
use Rattle.expand_add.specs.declared.answers.Stop.{Stop}
use Rattle.expand_add.specs.declared.answers.Stop.TheVariants.{Refused, Demanded}
use Rattle.expand_add.specs.Expanded.{Expanded}

-- how many units quotes give whose text gave so many, by whether `$@` of no parameters came in them
abbrev pub units_in_quotes : Bool → ℕ → ℕ
units_in_quotes of_none count = pick (of_none && eqb count 0) 0 (suc count)

-- where a message that is demanded stands, and the same so many bytes further behind
abbrev pub message_at : Stop → ℕ
message_at (Refused e) = 0
message_at (Demanded at len) = at

abbrev pub behind : ℕ → Stop → Stop
behind front (Refused e) = Refused e
behind front (Demanded at len) = Demanded (front + at) len

-- the form is a removal
abbrev pub is_removal : Form → Bool
is_removal (form.Minus colon) = false
is_removal (form.Equals colon) = false
is_removal (form.Query colon) = false
is_removal (form.Plus colon) = false
is_removal (form.Suffix doubled) = true
is_removal (form.Prefix doubled) = true

-- a run of literal bytes is added to the units before it, or there is no room for all of them and nothing is written
pub record PutsRun (m : Mark) (units : ℕ) (run before area : Text) (r : Bool) : Type 0 where
  pub fits : r ≡ leb (units + length run) row_limit
  pub puts : area ≡ pick r (fronted (row_bytes (marked m run)) before) before

-- one item is expanded: its units stand in the area, and what is after it is to be expanded after them
pub record Moves (lent : Lent) (text : Text) (at depth : ℕ) (mode : Mode) (m : Mark) (units : ℕ) (made : Made) (rest area vars : Text)
    (count next vars_used : ℕ) (of_none : Bool) : Type 0 where
  pub more : Parts
  pub read : parts (mode_of mode) depth (drop next text) ≡ done (more, rest)
  pub opens : open_in mode ≤ next
  pub row : Row
  pub is : made ≡ onto row of_none (expand lent more m (units + count) (held (take vars_used vars)))
  pub counts : length row ≡ count
  pub stands : Stands row area
  pub fits : units + count ≤ row_limit
  pub holds : Holds lent.room vars vars_used
  pub onward : at < next
  pub within : next ≤ length text

-- the text ends: nothing was added, and nothing stored
pub record Closes (lent : Lent) (text : Text) (at : ℕ) (made : Made) (rest vars : Text) (count next vars_used : ℕ) (of_none : Bool) : Type 0 where
  pub is : made ≡ done ([], held (take vars_used vars), of_none)
  pub none : count ≡ 0
  pub holds : Holds lent.room vars vars_used
  pub ends : Ends text at next rest

-- by whether the text stops, and the mode in which it goes on
abbrev pub Passes : Bool → Mode → Lent → Text → ℕ → ℕ → Mark → ℕ → Made → Text → Text → Text → ℕ → ℕ → ℕ → Bool → Type 0
Passes true mode lent text at depth m units made rest area vars count next vars_used of_none =
    Closes lent text at made rest vars count next vars_used of_none
Passes false mode lent text at depth m units made rest area vars count next vars_used of_none =
    Moves lent text at depth mode m units made rest area vars count next vars_used of_none

abbrev pub ItemAnswers : Bool → Mode → Lent → Text → ℕ → ℕ → Mark → ℕ → Made → Text → Text → Text → Expanded → Type 0
ItemAnswers stops mode lent text at depth m units made rest area vars (Err (Refused e)) = made ≡ refused (refusal_number e)
ItemAnswers stops mode lent text at depth m units made rest area vars (Err (Demanded from len)) = IsDemand made area from len
ItemAnswers stops mode lent text at depth m units made rest area vars (Ok r) =
    Passes stops mode lent text at depth m units made rest area vars r.units r.next r.vars_used r.of_none

-- the same by what the text is read as
abbrev pub ItemRead : Bool → Mode → Lent → Text → ℕ → ℕ → Mark → ℕ → (Parts → Made) → Taken → Text → Text → Expanded → Type 0
ItemRead stops mode lent text at depth m units own (refused e) area vars r = Unit {0}
ItemRead stops mode lent text at depth m units own (demands t) area vars r = Unit {0}
ItemRead stops mode lent text at depth m units own (done p) area vars r =
    ItemAnswers stops mode lent text at depth m units (own p.0) p.1 area vars r

-- the answer of the item that stands where the text is read, with the variables v
abbrev pub ItemSays : Lent → Text → Cursor → RowEnd → Item → Pairs → Text → Text → Expanded → Type 0
ItemSays lent text from row i v area vars r =
    ItemRead (is_stop i) (mode_after i from.mode) lent text from.at from.depth (mark_of row.mark) row.units
    (λ t. expand lent t (mark_of row.mark) row.units v) (parts (mode_of from.mode) from.depth (drop from.at text)) area vars r
