-- The stage's answer is that of the parts ahead, with the texts of those passed in front.
use Prim.Native.Nat.{◌-◌}
use lib.ListN.{length}
use Rattle.stages.specs.Images.{held_texts}
use Rattle.stages.specs.Split.{broken, split_parts}
use Rattle.stages.specs.Paths.{texts_of_fields}
use Rattle.text.specs.Rows.{row_of}
use Rattle.split_row.proofs.Parts.{Pacing}
use Rattle.split_row.proofs.put_parts.Given as goal

abbrev pub invariant-loop-at : goal.invariant-loop-at
invariant-loop-at l =
    Pacing (held_texts l.paths) l.ifs (texts_of_fields (held_texts l.paths) (split_parts l.ifs (broken (row_of l.initial.row)))) l.used l.initial.out
    (length l.initial.row) l.row l.at l.to l.short l.out

abbrev pub decreases-loop-at : goal.decreases-loop-at
decreases-loop-at l = length l.initial.row - l.at
