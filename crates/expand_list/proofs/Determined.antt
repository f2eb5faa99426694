-- What the contracts determine: the answer, and where a list is given, the units of the area in front. The bytes behind them, and all of them after a
-- refusal, are open.
use Prim.Native.Nat.{ℕ, ◌*◌}
use mathlib.Core.Path.{◌≡◌}
use mathlib.Core.Bool.{Bool}
use mathlib.Core.List.{List}
use lib.ListN.{take}
use Rattle.stages.specs.Bytes.{Text}
use Rattle.stages.specs.Outcome.{done}
use Rattle.stages.specs.Images.{Pairs}
use Rattle.stages.specs.Syntax.{Spread}
use Rattle.stages.specs.Units.{Mark}
use Rattle.stages.specs.Expand.{list_row, of_none}
use Rattle.text.proofs.Determined.{one_answer}
use Rattle.expand_add.specs.Added.{Adds, Fitting}
use Rattle.expand_add.specs.declared.answers.Onward.{Onward}
use Rattle.expand_add.specs.Expanded.{Expanded}
use Rattle.expand_add.proofs.Determined.{adds_determined, adds_determined_row}

module _ (units : ℕ) (on : Onward) (s : Spread) (m : Mark) (l : List Text) (v : Pairs) (area area' : Text) where
  pub give_list_determined : (r r' : Expanded) → Adds units on (done (list_row s m l v)) area r → Adds units on (done (list_row s m l v)) area' r' → r ≡ r'
  give_list_determined = adds_determined units on (done (list_row s m l v)) area area'

  pub give_list_units : {n next u n' next' u' : ℕ} {g g' : Bool} → Fitting units on (done (list_row s m l v)) area n next u g
      → Fitting units on (done (list_row s m l v)) area' n' next' u' g' → take (2 * n) area ≡ take (2 * n') area'
  give_list_units = adds_determined_row units on (done (list_row s m l v)) area area'

pub is_of_none_determined : (s : Spread) (l : List Text) (r r' : Bool) → r ≡ of_none s l → r' ≡ of_none s l → r ≡ r'
is_of_none_determined s l r r' = one_answer
