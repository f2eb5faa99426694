-- What the reader's answers say of the stages'.
use Rattle.std.specs.Prelude.{ℕ, ◌+◌, ◌≤◌, ◌<◌, ◌≡◌, Bool, true, false, List, length, drop, get_or, Option, Some, None, Result, Ok, Err}
use Rattle.stages.specs.Bytes.{Text, part, span, is_blank}
use Rattle.stages.specs.Outcome.{Outcome, refused, done, Placed, refused_at, demands_at, done_at}
use Rattle.stages.specs.Syntax.{Parts}
use Rattle.stages.specs.Read.{Taken, put, parts, words}
use Rattle.stages.specs.Assign.{name_at, behind_name_at, is_assignment, assignments}
use Rattle.text.specs.Places.{Behind}
use Rattle.text.specs.Refusals.{refusal_number}
use Rattle.text.specs.declared.refusal.Refusal.{Refusal}
use Rattle.text.specs.declared.refusal.Refused.{Refused}
use Rattle.read_mode.specs.Modes.{mode_of, open_in}
use Rattle.read_mode.specs.declared.Mode.{Mode}
use Rattle.read_mode.specs.declared.Cursor.{Cursor}
use Rattle.read_brace.specs.declared.Item.{Item}
use Rattle.read_item.specs.After.{ItemAt, mode_after, is_stop}
use Rattle.read_line.specs.declared.Pieces.{Pieces}
use Rattle.read_line.specs.declared.Pieces.TheVariants as pieces

-- a text is read from `at` on: what it is read as, and the place behind it
pub record ReadTo {A : Type 0} (text : Text) (at : ℕ) (o : Outcome (A × Text)) (next : ℕ) : Type 0 where
  pub tree : A
  pub is : o ≡ done (tree, drop next text)
  pub onward : at ≤ next
  pub within : next ≤ length text

abbrev pub ReadSays : {A : Type 0} → Text → ℕ → Outcome (A × Text) → Result ℕ Refusal → Type 0
ReadSays text at o (Err e) = o ≡ refused (refusal_number e)
ReadSays text at o (Ok next) = ReadTo text at o next

-- what is read from a place on
abbrev pub read_from : Text → Cursor → Taken
read_from text from = parts (mode_of from.mode) from.depth (drop from.at text)

-- the item is what stands at the place, and no more parentheses are open there than bytes stand before it
pub record Here (text : Text) (from : Cursor) (i : Item) : Type 0 where
  pub is : ItemAt text from i
  pub few : open_in from.mode ≤ from.at

-- an item is read: a part, and what is read from `next` on in the mode m
pub record ReadMore (text : Text) (from : Cursor) (next : ℕ) (m : Mode) : Type 0 where
  pub before : Parts → Parts
  pub is : read_from text from ≡ put before (parts (mode_of m) from.depth (drop next text))
  pub place : Behind text from.at next
  pub few : open_in m ≤ next

-- the text ends before `next`, or goes on there
abbrev pub ReadsOn : Bool → Text → Cursor → ℕ → Mode → Type 0
ReadsOn true text from next m = ReadTo text from.at (read_from text from) next
ReadsOn false text from next m = ReadMore text from next m

abbrev pub ItemSays : Item → Text → Cursor → Result ℕ Refusal → Type 0
ItemSays i text from (Err e) = read_from text from ≡ refused (refusal_number e)
ItemSays i text from (Ok next) = ReadsOn (is_stop i) text from next (mode_after i from.mode)

-- the place behind the blanks from `at` on
unfoldable pub blanks_end : Text → ℕ → ℕ
unfolding span is_blank
blanks_end line at = at + length (span is_blank (drop at line)).0

-- the next word begins at `place`
pub record NextAt (line : Text) (at place : ℕ) : Type 0 where
  pub is : place ≡ blanks_end line at
  pub onward : at ≤ place
  pub within : place < length line
  pub starts : is_blank (get_or line place 0) ≡ false

-- there is no further word
pub record NextNone (line : Text) (at : ℕ) : Type 0 where
  pub is : blanks_end line at ≡ length line

abbrev pub NextSays : Text → ℕ → Option ℕ → Type 0
NextSays line at (Some place) = NextAt line at place
NextSays line at None = NextNone line at

-- the word at `place` is an assignment: a name, and a `=` at `equals`
pub record AssignmentTo (line : Text) (place equals : ℕ) : Type 0 where
  pub is : is_assignment (drop place line) ≡ true
  pub name : name_at (drop place line) ≡ part line place equals
  pub behind : behind_name_at (drop place line) ≡ drop equals line
  pub onward : place < equals
  pub within : equals < length line

abbrev pub AssignmentSays : Text → ℕ → Option ℕ → Type 0
AssignmentSays line place (Some equals) = AssignmentTo line place equals
AssignmentSays line place None = is_assignment (drop place line) ≡ false

-- whether a line is accepted, or its first fault's number and place
abbrev pub verdict : {B : Type 0} → Placed (List B) → Placed (Unit {0})
verdict (refused_at n place) = refused_at n place
verdict (demands_at t place) = demands_at t place
verdict (done_at l) = done_at tt

-- the same of the pieces from a place on, by what they are
abbrev pub verdict_from : Pieces → Text → ℕ → Placed (Unit {0})
verdict_from pieces.Words line from = verdict (words (from, drop from line))
verdict_from pieces.Assignments line from = verdict (assignments (from, drop from line))

abbrev pub verdict_of : Result (Unit {0}) Refused → Placed (Unit {0})
verdict_of (Ok u) = done_at tt
verdict_of (Err r) = refused_at (refusal_number r.why) r.place

-- the piece at `place` is read, and those behind it begin at `next`
pub record PieceTo (kind : Pieces) (line : Text) (place next : ℕ) : Type 0 where
  pub is : verdict_from kind line place ≡ verdict_from kind line next
  pub onward : place < next
  pub within : next ≤ length line

abbrev pub PieceSays : Pieces → Text → ℕ → Result ℕ Refusal → Type 0
PieceSays kind line place (Err e) = verdict_from kind line place ≡ refused_at (refusal_number e) place
PieceSays kind line place (Ok next) = PieceTo kind line place next
