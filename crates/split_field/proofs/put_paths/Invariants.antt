-- The invariant: whatever elements the cells stand for, the paths met so far are written, and those ahead are still to be chosen from. The measure is what
-- is left of the image.
use Prim.Native.Nat.{◌-◌}
use mathlib.Core.List.{List}
use lib.ListN.{length}
use Rattle.stages.specs.Pattern.{Element}
use Rattle.pattern_cell.specs.Cells.{Shows}
use Rattle.split_field.proofs.Choosing.{Choosing}
use Rattle.split_field.proofs.put_paths.Given as goal

abbrev pub invariant-loop-path : goal.invariant-loop-path
invariant-loop-path l = (es : List Element) → Shows l.sets l.cells es → Choosing es l.paths l.used l.initial.out l.at l.len l.out

abbrev pub decreases-loop-path : goal.decreases-loop-path
decreases-loop-path l = length l.paths - l.at
