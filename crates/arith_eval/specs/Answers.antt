-- What a whole text comes to.
use Rattle.std.specs.Prelude.{ℕ, ◌≡◌, Bool, true, false, [], ℤ, drop, Result, Ok, Err}
use Rattle.stages.specs.Bytes.{Text}
use Rattle.stages.specs.Outcome.{Outcome, refused, done, ◌>>=◌}
use Rattle.stages.specs.Images.{Pairs}
use Rattle.stages.specs.Params.{Lent}
use Rattle.stages.specs.Arith.{stop, token, Tree, ended, tree, Evaluated, evaluate}
use Rattle.table_store.specs.Holding.{Holds}
use Rattle.text.specs.Refusals.{refusal_number}
use Rattle.text.specs.declared.refusal.Refusal.{Refusal}
use Rattle.arith_eval.specs.declared.Worked.{Worked}
use Rattle.arith_eval.specs.Climbs.{inside, Worth, Kept}

-- gone through once
pub record Errs (lent : Lent) (v : Pairs) (counts : Bool) (o : Outcome Tree) (e : ℕ) : Type 0 where
  pub reads : counts ≡ false → o ≡ refused e
  pub works : (l : Tree) → o ≡ done l → evaluate lent v l ≡ refused e

pub record Results (lent : Lent) (v : Pairs) (counts : Bool) (o : Outcome Tree) (z : ℤ) (w : Pairs) : Type 0 where
  pub tree : Tree
  pub is : o ≡ done tree
  pub worth : Worth lent v counts tree z w

abbrev pub Answers : Lent → Text → ℕ → Bool → Outcome Tree → Text → Result Worked Refusal → Type 0
Answers lent vars used counts o left (Err e) = Errs lent (inside vars used) counts o (refusal_number e)
Answers lent vars used counts o left (Ok r) =
    Results lent (inside vars used) counts o r.value (inside left r.vars_used) × Kept lent vars used counts left r.vars_used

-- nothing behind a value, or what refuses it
abbrev pub Finishes : Text → ℕ → Result Unit Refusal → Type 0
Finishes text at (Err e) = (l : Tree) → (token (drop at text) >>= λ s. ended stop l s) ≡ refused (refusal_number e)
Finishes text at (Ok u) = (l : Tree) → (token (drop at text) >>= λ s. ended stop l s) ≡ done (l, [])

-- the number and the variables that a text comes to
unfoldable pub comes_to : Lent → Pairs → Text → Evaluated
unfolding tree evaluate
comes_to a v t = tree t >>= λ l. evaluate a v l

-- of a text that is refused with e where it counts, the refusal that comes first
abbrev pub Prevails : Text → Refusal → Refusal → Type 0
Prevails text e r = (lent : Lent) (v : Pairs) → Errs lent v true (tree text) (refusal_number e) → comes_to lent v text ≡ refused (refusal_number r)

abbrev pub ComesTo : Lent → Text → Text → ℕ → Text → Result Worked Refusal → Type 0
ComesTo a text vars used left (Err e) = comes_to a (inside vars used) text ≡ refused (refusal_number e)
ComesTo a text vars used left (Ok r) =
    (comes_to a (inside vars used) text ≡ done (r.value, inside left r.vars_used)) × Holds a.room left r.vars_used
