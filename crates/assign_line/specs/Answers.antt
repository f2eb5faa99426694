-- What an assignment and a line of them leave: by cases on the code's answer, an equation with the stage, and what stands in the lent bytes then.
use Rattle.std.specs.Prelude.{ℕ, ◌+◌, ◌≤◌, ◌<◌, ◌≡◌, true, List, length, take, drop, Result, Ok, Err}
use Rattle.stages.specs.Numbers.{depth_limit, work_least}
use Rattle.stages.specs.Bytes.{Text, all, not_zero}
use Rattle.stages.specs.Outcome.{Outcome, refused, demands, done, Placed, refused_at, demands_at, done_at, ◌then◌}
use Rattle.stages.specs.Images.{Pairs, held, is_some, homes_of, fields_of}
use Rattle.stages.specs.Syntax.{Parts, Assignment}
use Rattle.stages.specs.Params.{Lent}
use Rattle.stages.specs.Assign.{an_assignment, assignment_of, read_assignments, assign, assign_all}
use Rattle.read_mode.specs.declared.Mode.TheVariants as mode
use Rattle.read_line.specs.Says.{AssignmentTo}
use Rattle.table_store.specs.Holding.{Holds}
use Rattle.expand_add.specs.Answers.{Ready, Waits}
use Rattle.text.specs.Refusals.{refusal_number}
use Rattle.expand_add.specs.declared.answers.Stop.{Stop}
use Rattle.expand_add.specs.declared.answers.Stop.TheVariants.{Refused, Demanded}
use Rattle.expand_add.specs.declared.answers.LineStop.{LineStop}
use Rattle.assign_line.specs.declared.Assigned.{Assigned}

-- what a word is read as: its name and its value's parts, and what is behind it
abbrev pub Named : Type 0
Named = (Text × Parts) × Text

-- the variables after a line's assignments, once it is read
abbrev pub line_outcome : Lent → Text → Pairs → Placed Pairs
line_outcome a t v = read_assignments t then λ ws. assign_all a ws v

-- the word at a place is read as an assignment, no byte of the line is zero, and there is room for its value's row; the tables are well formed
pub record AssignmentReady (text : Text) (place : ℕ) (vars : Text) (vars_used room : ℕ) (houses params work : Text) : Type 0 where
  pub within : place < length text
  pub tree : Text × Parts
  pub rest : Text
  pub is : an_assignment (drop place text) ≡ done (tree, rest)
  pub clean : all not_zero text ≡ true
  pub holds : Holds room vars vars_used
  pub housed : is_some (homes_of houses) ≡ true
  pub handed : is_some (fields_of params) ≡ true
  pub area : work_least ≤ length work

-- its `=` stands at `equals`, and its value is read from the byte behind that on
pub record ValueReady (text : Text) (place equals : ℕ) (vars : Text) (vars_used room : ℕ) (houses params work : Text) : Type 0 where
  pub named : AssignmentTo text place equals
  pub ready : Ready text (equals + 1) (mode.Value true) depth_limit 0 (length work)
  pub holds : Holds room vars vars_used
  pub housed : is_some (homes_of houses) ≡ true
  pub handed : is_some (fields_of params) ≡ true

-- the value is stored: the variables' image stands in its bytes, and behind the word, at `next`, stands `rest`
pub record IsStored (room : ℕ) (made : Outcome Pairs) (rest text : Text) (place : ℕ) (vars : Text) (next vars_used : ℕ) : Type 0 where
  pub is : made ≡ done (held (take vars_used vars))
  pub holds : Holds room vars vars_used
  pub ends : drop next text ≡ rest
  pub onward : place < next
  pub within : next ≤ length text

-- an assignment demands a message, which waits in the work area
pub record WordDemands (made : Outcome Pairs) (work : Text) (from len : ℕ) : Type 0 where
  pub message : Text
  pub is : made ≡ demands message
  pub waits : Waits message work from len

abbrev pub AssignmentOf : ℕ → Outcome Pairs → Text → Text → ℕ → Text → Text → Result Assigned Stop → Type 0
AssignmentOf room made rest text place vars work (Ok w) = IsStored room made rest text place vars w.next w.vars_used
AssignmentOf room made rest text place vars work (Err (Refused e)) = made ≡ refused (refusal_number e)
AssignmentOf room made rest text place vars work (Err (Demanded from len)) = WordDemands made work from len

-- the answer of an assignment, whatever it is read as
pub record AssignmentSays (a : Lent) (o : Outcome Named) (text : Text) (place : ℕ) (v : Pairs) (vars work : Text) (r : Result Assigned Stop) : Type 0 where
  pub says : (p : Named) → o ≡ done p → AssignmentOf a.room (assign a (assignment_of place p.0) v) p.1 text place vars work r

-- the line is read as assignments and no byte of it is zero; the tables are well formed
pub record LineReady (text vars : Text) (vars_used room : ℕ) (houses params work : Text) : Type 0 where
  pub words : List Assignment
  pub read : read_assignments text ≡ done_at words
  pub clean : all not_zero text ≡ true
  pub holds : Holds room vars vars_used
  pub housed : is_some (homes_of houses) ≡ true
  pub handed : is_some (fields_of params) ≡ true
  pub area : work_least ≤ length work

-- the variables' image stands in its bytes
pub record IsLeft (room : ℕ) (o : Placed Pairs) (vars : Text) (vars_used : ℕ) : Type 0 where
  pub is : o ≡ done_at (held (take vars_used vars))
  pub holds : Holds room vars vars_used

-- an assignment of the line demands a message, which waits in the work area
pub record LineDemands (o : Placed Pairs) (work : Text) (from len place : ℕ) : Type 0 where
  pub message : Text
  pub is : o ≡ demands_at message place
  pub waits : Waits message work from len

abbrev pub LineStops : Placed Pairs → Text → Stop → ℕ → Type 0
LineStops o work (Refused e) place = o ≡ refused_at (refusal_number e) place
LineStops o work (Demanded from len) place = LineDemands o work from len place

abbrev pub LineSays : ℕ → Placed Pairs → Text → Text → Result ℕ LineStop → Type 0
LineSays room o vars work (Ok vars_used) = IsLeft room o vars vars_used
LineSays room o vars work (Err e) = LineStops o work e.stop e.place
