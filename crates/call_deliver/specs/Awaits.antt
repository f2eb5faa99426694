-- A call's answer before its message is handed over, and what is handed over then.
use Rattle.std.specs.Prelude.{ℕ, ◌+◌, ◌≤◌, ◌≡◌, length, take, drop}
use Rattle.stages.specs.Bytes.{Text}
use Rattle.stages.specs.Call.{over, cleared}
use Rattle.stages.specs.Call as stage
use Rattle.stages.specs.Numbers.{demanded}
use Rattle.text.specs.Refusals.{refusal_number}
use Rattle.expand_add.specs.declared.answers.Stop.{Stop}
use Rattle.expand_add.specs.declared.answers.Stop.TheVariants.{Refused, Demanded}
use Rattle.expand_add.specs.declared.answers.LineStop.{LineStop}
use Rattle.call_deliver.specs.Hands.{Hands, refused_as}
use Rattle.call_deliver.specs.declared.Answer.{Answer}
use Rattle.call_deliver.specs.declared.Draft.{Draft}

-- an answer that comes without a message
abbrev pub untold : Answer → Draft
untold r = record { answer = r; at = 0; len = 0 }

-- a refusal, and where its message waits
abbrev pub refused_with : ℕ → ℕ → ℕ → ℕ → ℕ → Draft
refused_with n place vars_used at len = record { answer = refused_as n place vars_used; at = at; len = len }

-- the refusal of a line that stopped: its message waits where it is demanded
abbrev pub stopped_by : Stop → ℕ → ℕ → Draft
stopped_by (Refused why) place vars_used = refused_with (refusal_number why) place vars_used 0 0
stopped_by (Demanded at len) place vars_used = refused_with demanded place vars_used at len

abbrev pub stopped_as : LineStop → ℕ → Draft
stopped_as why vars_used = stopped_by why.stop why.place vars_used

-- the message that waits in the work area, "cut to the buffer"
abbrev pub told_to : Text → Draft → Text → Text
told_to message r work = take (length message) (take r.len (drop r.at work))

-- an answer once so many bytes of its message are written
abbrev pub telling : Answer → ℕ → Answer
telling r n = record { number = r.number; place = r.place; out_len = r.out_len; vars_used = r.vars_used; message_len = n }

-- a call is answered but for its message, whatever buffer is lent for that: the answer is the stage's once the message that waits is written
pub record Awaits (a : Text → stage.Answer) (r : Draft) (vars work out : Text) : Type 0 where
  pub fits : r.at + r.len ≤ length work
  pub hands : (message : Text) → Hands (a message) (telling r.answer (length (told_to message r work))) vars out
      (over (told_to message r work) message)

-- the message is written to its buffer, the answer says how much of it, and the work area is cleared
pub record HandsOver (d : Draft) (work message : Text) (r : Answer) (area told : Text) : Type 0 where
  pub is : r ≡ telling d.answer (length (told_to message d work))
  pub tells : told ≡ over (told_to message d work) message
  pub clears : area ≡ cleared work
