-- What a line comes to on a copy of the variables, before the call is answered.
use Rattle.std.specs.Prelude.{ℕ, ◌≤◌, ◌≡◌, Bool, true, List, length, take}
use Rattle.std.proofs.Math.Option.{some}
use Rattle.stages.specs.Numbers.{work_least}
use Rattle.stages.specs.Bytes.{Text, all, not_zero}
use Rattle.stages.specs.Outcome.{Placed, refused_at, demands_at, done_at, ◌then◌}
use Rattle.stages.specs.Images.{Pairs, held, is_some, homes_of, paths_of, fields_of, image}
use Rattle.stages.specs.Syntax.{Word}
use Rattle.stages.specs.Read.{read_line}
use Rattle.stages.specs.Line.{Fields}
use Rattle.stages.specs.Call.{over}
use Rattle.table_store.specs.Holding.{Holds}
use Rattle.expand_add.specs.Answers.{Waits}
use Rattle.table.specs.Around.{among}
use Rattle.expand_line.specs.Answers.{line_outcome}
use Rattle.call_check.specs.Calls.{output_of}
use Rattle.call_check.specs.Checks.{room_in}
use Rattle.call_check.specs.declared.Job.{Job}
use Rattle.std.specs.Prelude.{Result, Ok, Err}
use Rattle.text.specs.Refusals.{refusal_number}
use Rattle.expand_add.specs.declared.answers.Stop.{Stop}
use Rattle.expand_add.specs.declared.answers.Stop.TheVariants.{Refused, Demanded}
use Rattle.expand_add.specs.declared.answers.LineStop.{LineStop}
use Rattle.call_run.specs.declared.Delivered.{Delivered}

-- the fields and the variables of a line that is expanded with the copy, for an output of so many bytes
abbrev pub worded : Job → ℕ → Bool → ℕ → Text → Text → Text → Text → Text → ℕ → Placed (Fields × Pairs)
worded job varsRoom shouts vars_used line copy houses params paths out =
    line_outcome (among varsRoom shouts houses params paths (room_in job out)) line (held (take vars_used copy))

-- what the job writes of them, and the variables
abbrev pub draft : Job → ℕ → Placed (Fields × Pairs) → Placed (Text × Pairs)
draft job out o = o then λ r. output_of job out r.0 then λ t. done_at (t, r.1)

-- the line is read, the tables are well formed and the empty fields image has room; the image of what the line gives is read as the same fields
pub record Drafting (job : Job) (varsRoom : ℕ) (shouts : Bool) (vars_used : ℕ) (line copy houses params paths work : Text) (out : ℕ) : Type 0 where
  pub words : List Word
  pub read : read_line line ≡ done_at words
  pub clean : all not_zero line ≡ true
  pub holds : Holds varsRoom copy vars_used
  pub housed : is_some (homes_of houses) ≡ true
  pub numbered : is_some (fields_of params) ≡ true
  pub listed : is_some (paths_of paths) ≡ true
  pub area : work_least ≤ length work
  pub byte : 1 ≤ room_in job out
  pub again : (l : Fields) (v : Pairs) → worded job varsRoom shouts vars_used line copy houses params paths out ≡ done_at (l, v) → fields_of (image l) ≡ some l

-- the output is written, and the variables' new image stands in the copy
pub record Drafted (varsRoom : ℕ) (o : Placed (Text × Pairs)) (copy old out : Text) (out_length vars_used : ℕ) : Type 0 where
  pub written : Text
  pub is : o ≡ done_at (written, held (take vars_used copy))
  pub long : out_length ≡ length written
  pub stands : out ≡ over written old
  pub holds : Holds varsRoom copy vars_used

-- a message is demanded at a place: it waits in the work area, and the output holds its old bytes
pub record Demanding (o : Placed (Text × Pairs)) (work old out : Text) (at len place : ℕ) : Type 0 where
  pub message : Text
  pub is : o ≡ demands_at message place
  pub waits : Waits message work at len
  pub kept : out ≡ old

-- why it stopped: the output holds its old bytes
abbrev pub DraftStops : Placed (Text × Pairs) → Text → Text → Text → Stop → ℕ → Type 0
DraftStops o work old out (Refused e) place = (o ≡ refused_at (refusal_number e) place) × (out ≡ old)
DraftStops o work old out (Demanded at len) place = Demanding o work old out at len place

abbrev pub DraftOf : ℕ → Placed (Text × Pairs) → Text → Text → Text → Text → Result Delivered LineStop → Type 0
DraftOf varsRoom o copy work old out (Ok d) = Drafted varsRoom o copy old out d.out_len d.vars_used
DraftOf varsRoom o copy work old out (Err e) = DraftStops o work old out e.stop e.place
