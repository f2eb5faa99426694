-- The contract of `settle` determines its answer and every byte of the buffer: two outcomes that it allows for what was fetched are equal.
use mathlib.Core.Path.{◌≡◌}
use Rattle.stages.specs.Bytes.{Text}
use Rattle.text.proofs.Determined.{one_answer}
use Rattle.std.specs.Prelude.{ℕ, Some, None, Result, Ok, Err}
use Rattle.recipe_load.specs.Loads.{Fetched, Settles}
use Rattle.recipe_load.specs.declared.Unread.{Unread}

pub settle_determined : (f : Fetched) (old left left' : Text) (r s : Result ℕ Unread) → Settles f old left r → Settles f old left' s → (r ≡ s) × (left ≡ left')
settle_determined (Ok (Some n)) old left left' r s g h = (one_answer g.counts h.counts, one_answer g.leaves h.leaves)
settle_determined (Ok None) old left left' r s g h = (one_answer g.counts h.counts, one_answer g.leaves h.leaves)
settle_determined (Err e) old left left' r s g h = (one_answer g.0 h.0, one_answer g.1 h.1)
