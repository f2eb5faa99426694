-- No row before `row` is written there, so the class is looked for in those from it on.
use Rattle.std.proofs.Common.{◌≡◌, drop}
use Rattle.stages.specs.Classes.{classes}
use Rattle.stages.specs.Pattern.{class_at}
use Rattle.pattern_unit.specs.Widths.{signs_by}
use Rattle.pattern_class.proofs.class_at.Given as goal

abbrev pub invariant-loop-row : goal.invariant-loop-row
invariant-loop-row l =
    class_at classes (signs_by l.width (drop l.at l.units)) ≡ class_at (drop l.row classes) (signs_by l.width (drop l.at l.units))
