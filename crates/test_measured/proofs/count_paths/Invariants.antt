-- Whatever elements the cells stand for, so many paths were met, and those ahead are still to be counted. The measure is what is left of the image.
use Rattle.std.proofs.Common.{◌-◌, List, length}
use Rattle.stages.specs.Pattern.{Element}
use Rattle.pattern_cell.specs.Cells.{Shows}
use Rattle.test_measured.proofs.Counting.{Counting}
use Rattle.test_measured.proofs.count_paths.Given as goal

abbrev pub invariant-loop-path : goal.invariant-loop-path
invariant-loop-path l = (es : List Element) → Shows l.sets l.cells es → Counting es l.paths l.at l.count

abbrev pub decreases-loop-path : goal.decreases-loop-path
decreases-loop-path l = length l.paths - l.at
