-- The contracts of adding and removing determine the answer and every byte of the image's buffer.
use Prim.Native.Nat.{ℕ}
use mathlib.Core.Path.{◌≡◌, sym, ◌∙◌}
use mathlib.Core.List.{List}
use mathlib.Core.Option.{Option}
use Rattle.std.specs.Prelude.{Result, Option as Perhaps}
use Rattle.stages.specs.Bytes.{Text}
use Rattle.table_insert.specs.Added.{Adding, Adds}
use Rattle.table_insert.specs.Removed.{Removes}
use Rattle.table_insert.specs.declared.AddError.{AddError}

pub add_determined : {o : Adding} {old left left' : Text} {r s : Result ℕ AddError} → Adds o old left r → Adds o old left' s → (r ≡ s) × (left ≡ left')
add_determined p q = (p.answers ∙ sym q.answers, p.leaves ∙ sym q.leaves)

pub remove_determined : {used : ℕ} {o : Option (List Text)} {old left left' : Text} {r s : Perhaps ℕ} → Removes used o old left r → Removes used o old left' s
    → (r ≡ s) × (left ≡ left')
remove_determined p q = (p.answers ∙ sym q.answers, p.leaves ∙ sym q.leaves)
