-- The outer loop: the stage's answer is that of the fields ahead, with the texts of those passed in front. The inner loop: only other units are passed.
use Prim.Native.Nat.{◌-◌}
use lib.ListN.{length}
use Rattle.stages.specs.Images.{held_texts}
use Rattle.stages.specs.Split.{split}
use Rattle.stages.specs.Paths.{texts_of_fields}
use Rattle.text.specs.Rows.{row_of}
use Rattle.split_delimiter.specs.Places.{ahead}
use Rattle.split_row.proofs.Runs.{Run}
use Rattle.split_row.proofs.Walking.{Walk}
use Rattle.split_row.proofs.put_fields.Given as goal

abbrev pub invariant-loop-row-2 : goal.invariant-loop-row-2
invariant-loop-row-2 l = Run l.ifs l.row l.at l.end

abbrev pub decreases-loop-row-2 : goal.decreases-loop-row-2
decreases-loop-row-2 l = length l.row - l.end

abbrev pub invariant-loop-row : goal.invariant-loop-row
invariant-loop-row l =
    Walk (held_texts l.paths) l.ifs (texts_of_fields (held_texts l.paths) (split l.ifs (row_of l.initial.row))) l.used l.initial.out (length l.initial.row)
    l.row l.at l.len l.full l.out

abbrev pub decreases-loop-row : goal.decreases-loop-row
decreases-loop-row l = length (ahead l.row l.at)
