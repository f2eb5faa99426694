-- What a job answers, and what the lent buffers hold then, by the stages: every value and every byte.
use Rattle.std.specs.Prelude.{ℕ, ◌≡◌, length}
use Rattle.stages.specs.Numbers.{accepted}
use Rattle.stages.specs.Bytes.{Text}
use Rattle.stages.specs.Outcome.{done_at}
use Rattle.stages.specs.Call as stage
use Rattle.call_deliver.specs.declared.Answer.{Answer}
use Rattle.call_check.specs.declared.Job.{Job}
use Rattle.call_check.specs.declared.Job.TheVariants.{Expander, Normaliser}

-- the five values, and what the variables, the output and the message's buffer hold
pub record Hands (a : stage.Answer) (r : Answer) (vars out told : Text) : Type 0 where
  pub number : r.number ≡ a.number
  pub place : r.place ≡ a.place
  pub out_length : r.out_len ≡ a.out_length
  pub vars_used : r.vars_used ≡ a.vars_used
  pub message_length : r.message_len ≡ a.message_length
  pub output : out ≡ a.out
  pub variables : vars ≡ a.vars
  pub message : told ≡ a.message

-- and what the work area holds
pub record Gives (a : stage.Answer) (r : Answer) (vars work out message : Text) : Type 0 where
  pub hands : Hands a r vars out message
  pub clears : work ≡ a.work

-- "On refusal the output length is 0, the used length is the one given"
abbrev pub refused_as : ℕ → ℕ → ℕ → Answer
refused_as n place vars_used = record { number = n; place = place; out_len = 0; vars_used = vars_used; message_len = 0 }

-- "0 accepted, place 0"
abbrev pub accepted_as : ℕ → ℕ → Answer
accepted_as out_length vars_used = record { number = accepted; place = 0; out_len = out_length; vars_used = vars_used; message_len = 0 }

-- the variables' new image stands at the front of their buffer, and its length is the used length; behind it come zeros up to the used length that was given
pub record Accepts (out_length used : ℕ) (image old : Text) (r : Answer) (vars : Text) : Type 0 where
  pub is : r ≡ accepted_as out_length (length image)
  pub variables : vars ≡ stage.over (stage.padded used image) old

-- what is written of a fields image to an output: the image itself, or its quoted line
abbrev pub writing_of : Job → Text → Text → stage.Quoting
writing_of Expander t old = stage.quoting old (done_at t)
writing_of Normaliser t old = stage.quoter t old
