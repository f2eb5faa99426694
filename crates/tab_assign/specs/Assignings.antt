-- Assignment lines one by one, by the stage: each sees what those before it left, and the first that is refused is told by its number and its answer.
use Rattle.std.specs.Prelude.{ℕ, suc, ◌≡◌, Bool, true, false, List, [], ◌∷◌, eqb, Result, Ok, Err}
use Rattle.stages.specs.Numbers.{accepted}
use Rattle.stages.specs.Bytes.{Text}
use Rattle.stages.specs.Call.{assigner}
use Rattle.stages.specs.Call as stage
use Rattle.stages.specs.Program.{lines_of}
use Rattle.system.specs.Counts.{IsPrefixLen}
use Rattle.call_check.specs.Calls.{given}
use Rattle.tab_assign.specs.declared.RefusedLine.{RefusedLine}

-- what lines change: the buffers with the bytes in them, and the variables' used length
pub record Buffers : Type 0 where
  pub vars : Text
  pub vars_used : ℕ
  pub work : Text
  pub message : Text

abbrev pub buffers : Text → ℕ → Text → Text → Buffers
buffers vars used work message = record { vars = vars; vars_used = used; work = work; message = message }

-- the assigner's answer to a line
abbrev pub answer_to : Text → Text → Bool → Buffers → Text → stage.Answer
answer_to homes params shouts b line = assigner (given line b.vars b.vars_used shouts homes params [] b.work [] b.message)

-- what an answer leaves
abbrev pub left_by : stage.Answer → Buffers
left_by a = buffers a.vars a.vars_used a.work a.message

-- all lines are applied and leave this; or the line of that number is refused with this answer
pub data Assigning : Type 0 where
  whole : Buffers → Assigning
  fault : ℕ → stage.Answer → Assigning

abbrev pub assign_on : Bool → ℕ → stage.Answer → (Buffers → Assigning) → Assigning
assign_on true n a on = on (left_by a)
assign_on false n a on = fault n a

-- lines, the first of which has the number n
unfoldable pub assigning : Text → Text → Bool → ℕ → Buffers → List Text → Assigning
unfolding assigner
assigning homes params shouts n b [] = whole b
assigning homes params shouts n b (l ∷ ls) =
    assign_on (eqb (answer_to homes params shouts b l).number accepted) n (answer_to homes params shouts b l) (λ c. assigning homes params shouts (suc n) c ls)

-- the lines of a text, and an empty one where it has none
unfoldable pub lines_taken : Text → List Text
unfolding lines_of
lines_taken [] = [] ∷ []
lines_taken (b ∷ t) = lines_of (b ∷ t)

-- what is told of a refusal, and what stands in the buffers then
pub record Tells (a : stage.Answer) (vars work message : Text) (number place len : ℕ) : Type 0 where
  pub numbered : number ≡ a.number
  pub placed : place ≡ a.place
  pub long : len ≡ a.message_length
  pub variables : vars ≡ a.vars
  pub clears : work ≡ a.work
  pub says : message ≡ a.message
  pub within : IsPrefixLen len message

abbrev pub refused_line : ℕ → ℕ → ℕ → ℕ → RefusedLine
refused_line line number place len = record { line = line; number = number; place = place; message_len = len }

-- what comes of lines, and what they leave
pub data Assigns (o : Assigning) (vars work message : Text) : Result ℕ RefusedLine → Type 0 where
  passes : {used : ℕ} → o ≡ whole (buffers vars used work message) → IsPrefixLen used vars → Assigns o vars work message (Ok used)
  stops : {line number place len : ℕ} {a : stage.Answer} → o ≡ fault line a → Tells a vars work message number place len
      → Assigns o vars work message (Err (refused_line line number place len))
