use Rattle.std.proofs.Common.{◌-◌, length}
use Rattle.table_find.proofs.Numbering.{Seeking}
use Rattle.table_find.proofs.find_text.Given as goal

abbrev pub invariant-loop-end : goal.invariant-loop-end
invariant-loop-end l = Seeking l.image l.number l.at l.count

abbrev pub decreases-loop-end : goal.decreases-loop-end
decreases-loop-end l = length l.image - l.at
