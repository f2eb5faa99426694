use Rattle.std.proofs.Common.{◌-◌, length}
use Rattle.table_find.proofs.Spots.{Walking}
use Rattle.table_find.proofs.place_of.Given as goal

abbrev pub invariant-loop-at : goal.invariant-loop-at
invariant-loop-at l = Walking l.image l.key l.at

abbrev pub decreases-loop-at : goal.decreases-loop-at
decreases-loop-at l = length l.image - l.at
