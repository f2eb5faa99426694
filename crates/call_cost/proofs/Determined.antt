-- The contract of the job determines every value of the answer and every byte of the work area; the report never exceeds (p+1) times (n+1).
use Prim.Native.Nat.{ℕ, ◌+◌, ◌*◌, ◌≤◌}
use mathlib.Core.Path.{◌≡◌, sym, ap, ◌∙◌}
use lib.ListN.{length}
use Rattle.stages.specs.Bytes.{Text}
use Rattle.stages.specs.Cost as stage
use Rattle.stages.proofs.CostCalls.{elements_of, coster_ends}
use Rattle.call_cost.specs.Hands.{Hands}
use Rattle.call_cost.specs.declared.Costed.{Costed}

pub hands_determined : (a : stage.Costed) (r s : Costed) (left left' : Text) → Hands a r left → Hands a s left' → (r ≡ s) × (left ≡ left')
hands_determined a r s left left' p q = (
  ap (λ (n : ℕ). record { number = n; place = r.place; pairs = r.pairs }) (p.number ∙ sym q.number)
      ∙ ap (λ (n : ℕ). record { number = s.number; place = n; pairs = r.pairs }) (p.place ∙ sym q.place)
      ∙ ap (λ (n : ℕ). record { number = s.number; place = s.place; pairs = n }) (p.pairs ∙ sym q.pairs),
  p.work ∙ sym q.work,
)

pub cost_determined : (g : stage.Costing) (r s : Costed) (left left' : Text) → Hands (stage.coster g) r left → Hands (stage.coster g) s left'
    → (r ≡ s) × (left ≡ left')
cost_determined g = hands_determined (stage.coster g)

-- "The report equals that count", which is the contract, "and never exceeds (p+1) times (n+1)."
pub cost_most : (g : stage.Costing) (r : Costed) (left : Text) → Hands (stage.coster g) r left
    → r.pairs ≤ (length (elements_of g) + 1) * (length g.text + 1)
cost_most g r left h = rw h.pairs (coster_ends g).most
