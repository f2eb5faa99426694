-- Whatever two outcomes the contract of `removed` allows for one input, they are equal: each is equal to the same stage, of the elements that the cells
-- stand for.
use Prim.Native.Nat.{ℕ}
use mathlib.Core.Path.{◌≡◌}
use mathlib.Core.Bool.{Bool}
use mathlib.Core.List.{List}
use Rattle.stages.specs.Bytes.{Text}
use Rattle.stages.specs.Pattern.{Element}
use Rattle.stages.specs.Removal.{removed}
use Rattle.text.specs.Cases.{side_of, reach_of}
use Rattle.text.proofs.Determined.{one_answer}
use Rattle.pattern_cell.specs.Cells.{Shows, Shown}

pub removed_determined : (value : Text) (sets cells : List ℕ) (suffix long : Bool) → Shown sets cells → {r q : Text}
    → ((es : List Element) → Shows sets cells es → r ≡ removed (side_of suffix) (reach_of long) es value)
    → ((es : List Element) → Shows sets cells es → q ≡ removed (side_of suffix) (reach_of long) es value)
    → r ≡ q
removed_determined value sets cells suffix long s f g = one_answer (f s.es s.shows) (g s.es s.shows)
