-- The contracts of the seven jobs determine every value of the answer and every byte of every lent buffer: two outcomes that a contract allows for one
-- call are equal.
use Prim.Native.Nat.{ℕ}
use mathlib.Core.Path.{◌≡◌, sym, ap, ◌∙◌}
use mathlib.Core.List.{[]}
use Rattle.stages.specs.Bytes.{Text}
use Rattle.stages.specs.Call as stage
use Rattle.call_deliver.specs.Hands.{Gives}
use Rattle.call_deliver.specs.declared.Answer.{Answer}
use Rattle.call_deliver.proofs.Determined.{gives_determined}
use Rattle.call_assign.proofs.Determined.{answer_assign_determined}
use Rattle.stages.specs.Updates as update
use Rattle.call_update.specs.Hands.{Hands}
use Rattle.call_update.specs.declared.Updated.{Updated}
use Rattle.call_update.proofs.Determined.{hands_determined}
use Rattle.stages.specs.Cost as cost
use Rattle.call_cost.specs.Hands as cost-hands
use Rattle.call_cost.specs.declared.Costed.{Costed}
use Rattle.call_cost.proofs.Determined as costs
use Rattle.drunquill.specs.Hands.{Quotes}
use Rattle.drunquill.specs.declared.QuoteAnswer.{QuoteAnswer}

module _ (g : stage.Given) (r s : Answer) (vars vars' work work' out out' message message' : Text) where
  pub expand_determined : Gives (stage.expander g) r vars work out message → Gives (stage.expander g) s vars' work' out' message'
      → (r ≡ s) × (vars ≡ vars') × (work ≡ work') × (out ≡ out') × (message ≡ message')
  expand_determined = gives_determined (stage.expander g) r s vars vars' work work' out out' message message'

  pub normalise_determined : Gives (stage.normaliser g) r vars work out message → Gives (stage.normaliser g) s vars' work' out' message'
      → (r ≡ s) × (vars ≡ vars') × (work ≡ work') × (out ≡ out') × (message ≡ message')
  normalise_determined = gives_determined (stage.normaliser g) r s vars vars' work work' out out' message message'

pub assign_determined : (g : stage.Given) (r s : Answer) (vars vars' work work' message message' : Text) → Gives (stage.assigner g) r vars work [] message
    → Gives (stage.assigner g) s vars' work' [] message' → (r ≡ s) × (vars ≡ vars') × (work ≡ work') × (message ≡ message')
assign_determined = answer_assign_determined

pub quote_determined : (fields old : Text) (r s : QuoteAnswer) (out out' : Text) → Quotes (stage.quoter fields old) r out → Quotes
    (stage.quoter fields old) s out'
    → (r ≡ s) × (out ≡ out')
quote_determined fields old r s out out' g h = (
  ap (λ (n : ℕ). record { number = n; place = r.place; out_len = r.out_len }) (g.number ∙ sym h.number)
      ∙ ap (λ (n : ℕ). record { number = s.number; place = n; out_len = r.out_len }) (g.place ∙ sym h.place)
      ∙ ap (λ (n : ℕ). record { number = s.number; place = s.place; out_len = n }) (g.out_length ∙ sym h.out_length),
  g.output ∙ sym h.output,
)

module _ (g : update.Updating) (r s : Updated) (paths paths' : Text) where
  pub insert_path_determined : Hands g (update.inserter g) r paths → Hands g (update.inserter g) s paths' → (r ≡ s) × (paths ≡ paths')
  insert_path_determined = hands_determined g (update.inserter g) r s paths paths'

  pub delete_path_determined : Hands g (update.deleter g) r paths → Hands g (update.deleter g) s paths' → (r ≡ s) × (paths ≡ paths')
  delete_path_determined = hands_determined g (update.deleter g) r s paths paths'

pub cost_determined : (g : cost.Costing) (r s : Costed) (work work' : Text) → cost-hands.Hands (cost.coster g) r work
    → cost-hands.Hands (cost.coster g) s work' → (r ≡ s) × (work ≡ work')
cost_determined g r s work work' = costs.hands_determined (cost.coster g) r s work work'
