-- The contract of `answer_call` determines every value of the answer and every byte of every lent buffer: two outcomes that it allows for one call are
-- equal.
use mathlib.Core.Path.{◌≡◌}
use Rattle.stages.specs.Bytes.{Text}
use Rattle.stages.specs.Call as stage
use Rattle.call_check.specs.Calls.{answer_of}
use Rattle.call_check.specs.declared.Job.{Job}
use Rattle.call_deliver.specs.Hands.{Gives}
use Rattle.call_deliver.specs.declared.Answer.{Answer}
use Rattle.call_deliver.proofs.Determined.{gives_determined}

pub answer_call_determined : (job : Job) (g : stage.Given) (r s : Answer) (vars vars' work work' out out' message message' : Text)
    → Gives (answer_of job g) r vars work out message → Gives (answer_of job g) s vars' work' out' message'
    → (r ≡ s) × (vars ≡ vars') × (work ≡ work') × (out ≡ out') × (message ≡ message')
answer_call_determined job g = gives_determined (answer_of job g)
