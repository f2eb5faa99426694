-- The contract of `answer_assign` determines every value of the answer and every byte of every lent buffer: two outcomes that it allows for one call are
-- equal.
use mathlib.Core.Path.{◌≡◌}
use mathlib.Core.List.{[]}
use Rattle.stages.specs.Bytes.{Text}
use Rattle.stages.specs.Call.{Given, assigner}
use Rattle.call_deliver.specs.Hands.{Gives}
use Rattle.call_deliver.specs.declared.Answer.{Answer}
use Rattle.call_deliver.proofs.Determined.{gives_determined}

pub answer_assign_determined : (g : Given) (r s : Answer) (vars vars' work work' message message' : Text)
    → Gives (assigner g) r vars work [] message → Gives (assigner g) s vars' work' [] message'
    → (r ≡ s) × (vars ≡ vars') × (work ≡ work') × (message ≡ message')
answer_assign_determined g r s vars vars' work work' message message' p q =
    let d = gives_determined (assigner g) r s vars vars' work work' [] [] message message' p q in
    (d.0, d.1, d.2, d.4)
