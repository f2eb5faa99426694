-- None of the cuts before the one at hand matches: the first that does is the first from there on.
use mathlib.Core.Path.{◌≡◌}
use mathlib.Core.List.{List}
use Rattle.stages.specs.Pattern.{Element}
use Rattle.text.specs.Cases.{side_of}
use Rattle.pattern_cell.specs.Cells.{Shows}
use Rattle.pattern_remove.proofs.Cutting.{cut_from}
use Rattle.pattern_remove.proofs.cut_place.Given as goal

abbrev pub invariant-loop-i : goal.invariant-loop-i
invariant-loop-i l =
    (p : List Element) → Shows l.sets l.cells p
    → cut_from (side_of l.suffix) l.down p l.value 0 ≡ cut_from (side_of l.suffix) l.down p l.value l.i
