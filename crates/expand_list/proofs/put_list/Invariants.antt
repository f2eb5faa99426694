-- The texts passed stand at the front, and those ahead are left, a gap before each but the first.
use Rattle.std.proofs.Common.{◌-◌, length}
use Rattle.row.specs.Marks.{mark_of}
use Rattle.expand_list.specs.Lists.{gap_row}
use Rattle.expand_list.proofs.Putting.{Putting}
use Rattle.expand_list.proofs.put_list.Given as goal

abbrev pub invariant-loop-end : goal.invariant-loop-end
invariant-loop-end l = Putting l.params (gap_row l.gap) (gap_row l.before) (mark_of l.mark) l.at l.to l.initial.area l.area

abbrev pub decreases-loop-end : goal.decreases-loop-end
decreases-loop-end l = length l.params - l.at
