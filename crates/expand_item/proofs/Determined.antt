-- The contracts determine every answer: two outcomes that a contract allows for one input are equal, and by `adds_determined_row` of
-- crates/expand_add/proofs/Determined.antt so are their rows. Open is what that file names.
use Prim.Native.Nat.{ℕ}
use mathlib.Core.Path.{◌≡◌}
use mathlib.Core.Bool.{Bool}
use mathlib.Core.List.{List, [], ◌∷◌}
use lib.ListN.{length}
use Rattle.stages.specs.Bytes.{Text}
use Rattle.stages.specs.Outcome.{Outcome, done}
use Rattle.stages.specs.Images.{Pairs, or_empty}
use Rattle.stages.specs.Syntax.{Param}
use Rattle.stages.specs.Units.{Mark, Row, cell, marked, expanded_mark, decimal}
use Rattle.stages.specs.Expand.{directory, tilde_row}
use Rattle.expand_param.specs.Holding.{holding_in}
use Rattle.expand_add.specs.Added.{Adds}
use Rattle.expand_item.specs.Sought.{value_row, length_row}
use Rattle.expand_add.specs.declared.answers.Onward.{Onward}
use Rattle.expand_add.specs.Expanded.{Expanded}
use Rattle.expand_add.proofs.Determined.{adds_determined}

module _ (units : ℕ) (on : Onward) (area area' : Text) (r s : Expanded) where
  -- two answers for one row are the same
  abbrev OneFor : Outcome Row → Type 0
  OneFor o = Adds units on o area r → Adds units on o area' s → r ≡ s

  pub give_unit_determined : (m : Mark) (b : ℕ) → OneFor (done (cell m b ∷ []))
  give_unit_determined m b = adds_determined units on (done (cell m b ∷ [])) area area' r s

  pub give_total_determined : (m : Mark) (l : List Text) → OneFor (done (marked (expanded_mark m) (decimal (length l))))
  give_total_determined m l = adds_determined units on (done (marked (expanded_mark m) (decimal (length l)))) area area' r s

  pub give_home_determined : (m : Mark) (login : Text) (v homes : Pairs) → OneFor (done (tilde_row login m (directory v homes login)))
  give_home_determined m login v homes = adds_determined units on (done (tilde_row login m (directory v homes login))) area area' r s

  module _ (m : Mark) (l : List Text) (v : Pairs) (x : Param) where
    abbrev own : Text
    own = or_empty (holding_in l v x)

    pub give_value_determined : OneFor (done (marked (expanded_mark m) own))
    give_value_determined = adds_determined units on (done (marked (expanded_mark m) own)) area area' r s

    module _ (shouts : Bool) where
      pub give_sought_determined : OneFor (value_row shouts l v x m)
      give_sought_determined = adds_determined units on (value_row shouts l v x m) area area' r s

      pub give_length_determined : OneFor (length_row shouts l v x m)
      give_length_determined = adds_determined units on (length_row shouts l v x m) area area' r s
