-- The contracts of both jobs determine every value of the answer and every byte of the lent buffer.
use Prim.Native.Nat.{ℕ}
use mathlib.Core.Path.{◌≡◌, sym, ap, ◌∙◌}
use Rattle.stages.specs.Bytes.{Text}
use Rattle.stages.specs.Updates as stage
use Rattle.call_update.specs.Hands.{Hands}
use Rattle.call_update.specs.declared.Updated.{Updated}

pub hands_determined : (g : stage.Updating) (a : stage.Updated) (r s : Updated) (left left' : Text) → Hands g a r left → Hands g a s left'
    → (r ≡ s) × (left ≡ left')
hands_determined g a r s left left' p q = (
  ap (λ (n : ℕ). record { number = n; place = r.place; used = r.used }) (p.number ∙ sym q.number)
      ∙ ap (λ (n : ℕ). record { number = s.number; place = n; used = r.used }) (p.place ∙ sym q.place)
      ∙ ap (λ (n : ℕ). record { number = s.number; place = s.place; used = n }) (p.used ∙ sym q.used),
  p.paths ∙ sym q.paths,
)

module _ (g : stage.Updating) (r s : Updated) (left left' : Text) where
  pub insert_path_determined : Hands g (stage.inserter g) r left → Hands g (stage.inserter g) s left' → (r ≡ s) × (left ≡ left')
  insert_path_determined = hands_determined g (stage.inserter g) r s left left'

  pub delete_path_determined : Hands g (stage.deleter g) r left → Hands g (stage.deleter g) s left' → (r ≡ s) × (left ≡ left')
  delete_path_determined = hands_determined g (stage.deleter g) r s left left'
