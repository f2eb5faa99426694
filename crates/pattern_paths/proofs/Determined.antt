-- Whatever two outcomes the contract of `next_path` allows for one input, they are equal: each is equal to one definition, of elements that the cells
-- stand for.
use Prim.Native.Nat.{ℕ}
use mathlib.Core.Path.{◌≡◌}
use mathlib.Core.List.{List}
use Rattle.stages.specs.Bytes.{Text}
use Rattle.stages.specs.Pattern.{Element}
use Rattle.text.proofs.Determined.{one_answer}
use Rattle.pattern_cell.specs.Cells.{Shows, Shown}
use Rattle.pattern_paths.specs.Chosen.{NextSays}
use Rattle.std.specs.Prelude.{Option}
use Rattle.table.specs.declared.Part.{Part}

pub next_path_determined : (paths : Text) (at : ℕ) (sets cells : List ℕ) {r q : Option Part} → Shown sets cells
    → ((es : List Element) → Shows sets cells es → NextSays es paths at r) → ((es : List Element) → Shows sets cells es → NextSays es paths at q) → r ≡ q
next_path_determined paths at sets cells s d e = one_answer (d s.es s.shows).is (e s.es s.shows).is
