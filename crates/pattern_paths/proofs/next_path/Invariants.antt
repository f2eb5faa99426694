-- What is chosen from `at` on is what is chosen from `i` on, whatever elements the cells stand for. The measure is what is left of the image.
use Prim.Native.Nat.{◌-◌}
use mathlib.Core.List.{List}
use lib.ListN.{length}
use Rattle.stages.specs.Pattern.{Element}
use Rattle.pattern_cell.specs.Cells.{Shows}
use Rattle.pattern_paths.proofs.Walking.{Passing}
use Rattle.pattern_paths.proofs.next_path.Given as goal

abbrev pub invariant-loop-end : goal.invariant-loop-end
invariant-loop-end l = (es : List Element) → Shows l.sets l.cells es → Passing es l.paths l.at l.i

abbrev pub decreases-loop-end : goal.decreases-loop-end
decreases-loop-end l = length l.paths - l.i
