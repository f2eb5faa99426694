use Rattle.std.proofs.Common.{◌-◌, length}
use Rattle.table_find.proofs.Numbering.{Counting}
use Rattle.table_find.proofs.count_texts.Given as goal

abbrev pub invariant-loop-end : goal.invariant-loop-end
invariant-loop-end l = Counting l.image l.at l.texts

abbrev pub decreases-loop-end : goal.decreases-loop-end
decreases-loop-end l = length l.image - l.at
