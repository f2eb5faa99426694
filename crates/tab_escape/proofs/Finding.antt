-- The place of the first such byte, as `position` tells it.
use Rattle.std.proofs.Common.{◌≡◌, ℕ, ◌≤◌, Bool, not, cond, Option, Some, None, length, refl, sym, ap, ◌∙◌, arith}
use Rattle.std.specs.List.{position_or_len}
use Rattle.std.specs.Option.{unwrap_or}
use Rattle.std.proofs.lemmas.List.Sums.{prefix_len-le-length}
use Rattle.std.proofs.lemmas.List.Recursion.{is_position_or_len}
use lib.Dec.{eqb, ltb}
use borrow.Author.Tests.{ltb-false}
use Rattle.stages.specs.Bytes.{Text}
use Rattle.stages.proofs.Bools.{either}
use Rattle.tab_escape.specs.Escapes.{up_to}

first : (f : ℕ → Bool) (t : Text) → unwrap_or (cond (ltb (position_or_len f t) (length t)) (Some (position_or_len f t)) None) (length t) ≡ position_or_len f t
first f t =
    let p : position_or_len f t ≤ length t = prefix_len-le-length (λ b. not (f b)) t in
    either (ltb (position_or_len f t) (length t)) (λ e. rw e) (λ e. let h : length t ≤ position_or_len f t = ltb-false _ _ e in rw e (omega arith))

up_to_is : (b : ℕ) (t : Text) → up_to b t ≡ position_or_len (λ c. eqb c b) t
up_to_is b t = is_position_or_len (up_to b) (λ c. eqb c b) refl (λ c u. either (eqb c b) (λ e. rw e) (λ e. rw e (omega arith))) t

pub up_to_first : (b : ℕ) (t : Text) {o : Option ℕ} {k : ℕ}
    → o ≡ cond (ltb (position_or_len (λ c. eqb c b) t) (length t)) (Some (position_or_len (λ c. eqb c b) t)) None
    → k ≡ unwrap_or o (length t) → k ≡ up_to b t
up_to_first b t e u = u ∙ ap (λ (x : Option ℕ). unwrap_or x (length t)) e ∙ first (λ c. eqb c b) t ∙ sym (up_to_is b t)
