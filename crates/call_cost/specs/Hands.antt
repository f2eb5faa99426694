-- What the job on a pattern's cost answers, and what the work area holds then, by document 02's stage: every value and every byte.
use Rattle.std.specs.Prelude.{ℕ, ◌≡◌, Result, Ok, Err}
use Rattle.stages.specs.Bytes.{Text}
use Rattle.stages.specs.Outcome.{Placed, refused_at, done_at}
use Rattle.stages.specs.Cost as stage
use Rattle.text.specs.declared.refusal.Refusal.{Refusal}
use Rattle.text.specs.Refusals.{refusal_number}
use Rattle.call_cost.specs.declared.Costed.{Costed}

-- a call, by what it is handed
abbrev pub costing : Text → Text → Text → stage.Costing
costing pattern text work = record { pattern = pattern; text = text; work = work }

-- what the stage says by this result: a count, or a refusal, whose place is 0
abbrev pub placed : Result ℕ Refusal → Placed ℕ
placed (Ok k) = done_at k
placed (Err e) = refused_at (refusal_number e) 0

abbrev pub answer_as : ℕ → ℕ → Costed
answer_as n pairs = record { number = n; place = 0; pairs = pairs }

-- the three values, and what the work area holds
pub record Hands (a : stage.Costed) (r : Costed) (left : Text) : Type 0 where
  pub number : r.number ≡ a.number
  pub place : r.place ≡ a.place
  pub pairs : r.pairs ≡ a.pairs
  pub work : left ≡ a.work
