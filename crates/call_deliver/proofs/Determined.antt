-- The contracts determine every value of the answer and every byte of the lent buffers: two outcomes that one of them allows for one call are equal.
use Prim.Native.Nat.{ℕ}
use mathlib.Core.Path.{◌≡◌, sym, ◌∙◌}
use lib.ListN.{length, take}
use Rattle.stages.specs.Bytes.{Text}
use Rattle.stages.specs.Call.{over}
use Rattle.stages.specs.Call as stage
use Rattle.quote.specs.Answers.{quoting_of}
use Rattle.std.specs.Prelude.{Result}
use Rattle.quote.specs.declared.QuoteError.{QuoteError}
use Rattle.quote.proofs.Determined.{quoted_determined}
use Rattle.call_check.specs.declared.Job.{Job}
use Rattle.text.proofs.Determined.{one_answer}
use Rattle.call_deliver.specs.Hands.{Gives, Accepts, refused_as, writing_of}
use Rattle.call_deliver.specs.Awaits.{refused_with, stopped_as, HandsOver}
use Rattle.expand_add.specs.declared.answers.LineStop.{LineStop}
use Rattle.call_deliver.specs.declared.Answer.{Answer}
use Rattle.call_deliver.specs.declared.Draft.{Draft}

pub answer_same : (r s : Answer) → r.number ≡ s.number → r.place ≡ s.place → r.out_len ≡ s.out_len → r.vars_used ≡
    s.vars_used → r.message_len ≡ s.message_len → r ≡ s
answer_same r s a b c d e i =
    record { number = a i; place = b i; out_len = c i; vars_used = d i; message_len = e i }

pub refuse_determined : (n place used : ℕ) (r s : Answer) → r ≡ refused_as n place used → s ≡ refused_as n place used → r ≡ s
refuse_determined n place used r s = one_answer

pub accept_determined : (n used : ℕ) (image old : Text) (r s : Answer) (vars vars' : Text) → Accepts n used image old r vars → Accepts n used image old s vars'
    → (r ≡ s) × (vars ≡ vars')
accept_determined n used image old r s vars vars' g h = (g.is ∙ sym h.is, g.variables ∙ sym h.variables)

pub deliver_determined : (job : Job) (image old left left' : Text) (r s : Result ℕ QuoteError) → quoting_of r left ≡ writing_of job image old
    → quoting_of s left' ≡ writing_of job image old → (r ≡ s) × (left ≡ left')
deliver_determined job image old = quoted_determined (writing_of job image old)

pub tell_determined : (text old left left' : Text) (r s : ℕ) → (r ≡ length (take (length old) text)) × (left ≡ over (take (length old) text) old)
    → (s ≡ length (take (length old) text)) × (left' ≡ over (take (length old) text) old) → (r ≡ s) × (left ≡ left')
tell_determined text old left left' r s g h = (g.0 ∙ sym h.0, g.1 ∙ sym h.1)

pub refuse_with_determined : (n place used at len : ℕ) (r s : Draft) → r ≡ refused_with n place used at len → s ≡ refused_with n place used at len → r ≡ s
refuse_with_determined n place used at len r s = one_answer

pub stop_determined : (why : LineStop) (used : ℕ) (r s : Draft) → r ≡ stopped_as why used → s ≡ stopped_as why used → r ≡ s
stop_determined why used r s = one_answer

pub hand_over_determined : (d : Draft) (work message : Text) (r s : Answer) (area area' told told' : Text) → HandsOver d work message r area told
    → HandsOver d work message s area' told' → (r ≡ s) × (area ≡ area') × (told ≡ told')
hand_over_determined d work message r s area area' told told' g h =
    (g.is ∙ sym h.is, g.clears ∙ sym h.clears, g.tells ∙ sym h.tells)

-- a whole job
module _ (a : stage.Answer) (r s : Answer) (vars vars' work work' out out' message message' : Text) where
  pub gives_determined : Gives a r vars work out message → Gives a s vars' work' out' message'
      → (r ≡ s) × (vars ≡ vars') × (work ≡ work') × (out ≡ out') × (message ≡ message')
  gives_determined g h =
      let i = g.hands in
      let j = h.hands in (
        answer_same r s (i.number ∙ sym j.number) (i.place ∙ sym j.place) (i.out_length ∙ sym j.out_length)
            (i.vars_used ∙ sym j.vars_used) (i.message_length ∙ sym j.message_length),
        i.variables ∙ sym j.variables,
        g.clears ∙ sym h.clears,
        i.output ∙ sym j.output,
        i.message ∙ sym j.message,
      )
