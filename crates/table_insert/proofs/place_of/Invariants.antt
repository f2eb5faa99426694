use Rattle.std.proofs.Common.{◌-◌, length}
use Rattle.table_insert.proofs.Placing.{Walking}
use Rattle.table_insert.proofs.place_of.Given as goal

abbrev pub invariant-loop-end : goal.invariant-loop-end
invariant-loop-end l = Walking l.image l.path l.at

abbrev pub decreases-loop-end : goal.decreases-loop-end
decreases-loop-end l = length l.image - l.at
