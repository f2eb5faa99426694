-- The contracts of `append_argument`, `word_of` and `hear` determine the answer and every byte of the buffer: two outcomes that one allows for one call
-- are equal.
use Prim.Native.Nat.{ℕ, ◌-◌}
use mathlib.Core.Path.{◌≡◌, sym, ap, ◌∙◌}
use mathlib.Core.Bool.{Bool, false}
use lib.ListN.{length}
use Rattle.stages.specs.Bytes.{Text}
use Rattle.stages.specs.Outcome.{Outcome, refused, demands, done}
use Rattle.text.proofs.Determined.{one_answer}
use Rattle.table_store.specs.Answers.{record_in}
use Rattle.recipe_arguments.specs.Options.{word_in}
use Rattle.recipe_arguments.specs.Packs.{Adds, Appends, HearsAs, Hears}
use Rattle.recipe_arguments.specs.declared.Word.{Word}
use Rattle.recipe_arguments.specs.declared.Word.TheVariants.{Shout, End, Unknown, Parameter}
use Rattle.recipe_arguments.specs.declared.Heard.{Heard}

adds_determined : (o : Outcome Text) (used : ℕ) (old left left' : Text) (r s : ℕ) → Adds o used old left r → Adds o used old left' s
    → (r ≡ s) × (left ≡ left')
adds_determined (refused n) used old left left' r s g h = (one_answer g.0 h.0, one_answer g.1 h.1)
adds_determined (demands m) used old left left' r s g h = (one_answer g.0 h.0, one_answer g.1 h.1)
adds_determined (done new) used old left left' r s g h = (one_answer g.0 h.0, one_answer g.1 h.1)

pub append_argument_determined : (t : Text) (used : ℕ) (old left left' : Text) (r s : ℕ) → Appends t used old left r → Appends t used old left' s
    → (r ≡ s) × (left ≡ left')
append_argument_determined t used old = adds_determined (record_in (length old - used) t) used old

pub word_of_determined : (options : Bool) (t : Text) (r s : Word) → r ≡ word_in options t → s ≡ word_in options t → r ≡ s
word_of_determined options t r s = one_answer

pub hear_determined : (t : Text) (h : Heard) (old left left' : Text) (r s : Heard) → Hears t h old left r → Hears t h old left' s
    → (r ≡ s) × (left ≡ left')
hear_determined t h old left left' r s = go (word_in h.options t)
  where
    go : (w : Word) → HearsAs w t h old left r → HearsAs w t h old left' s → (r ≡ s) × (left ≡ left')
    go Shout g k = (one_answer g.1 k.1, one_answer g.0 k.0)
    go End g k = (one_answer g.1 k.1, one_answer g.0 k.0)
    go Unknown g k = (one_answer g.1 k.1, one_answer g.0 k.0)
    go Parameter g k =
        let d = append_argument_determined t h.used old left left' r.used s.used g.0 k.0 in
        (g.1 ∙ ap (λ (n : ℕ). record { used = n; shouts = h.shouts; options = false; known = h.known }) d.0 ∙ sym k.1, d.1)
