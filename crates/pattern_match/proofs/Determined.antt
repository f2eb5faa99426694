-- Whatever two outcomes a contract of this crate allows for one input, they are equal: each is equal to the same stage, of the elements that
-- the cells stand for.
use mathlib.Core.Path.{◌≡◌}
use mathlib.Core.Bool.{Bool}
use mathlib.Core.List.{List}
use Prim.Native.Nat.{ℕ}
use Rattle.stages.specs.Bytes.{Text}
use Rattle.stages.specs.Pattern.{Element, matches}
use Rattle.text.specs.Cases.{purpose_of}
use Rattle.text.proofs.Determined.{one_answer}
use Rattle.pattern_cell.specs.Cells.{Shows, Shown}

pub matches_determined : (sets cells : List ℕ) (t : Text) (path : Bool) → Shown sets cells → {r q : Bool}
    → ((es : List Element) → Shows sets cells es → r ≡ matches (purpose_of path) es t)
    → ((es : List Element) → Shows sets cells es → q ≡ matches (purpose_of path) es t) → r ≡ q
matches_determined sets cells t path s f g = one_answer (f s.es s.shows) (g s.es s.shows)
