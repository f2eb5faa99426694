use Rattle.std.proofs.Common.{◌-◌, length}
use Rattle.table.proofs.Walk.{Going}
use Rattle.table.proofs.well_formed.Given as goal

abbrev pub invariant-loop-end : goal.invariant-loop-end
invariant-loop-end l = Going l.kind l.image l.at l.from l.to

abbrev pub decreases-loop-end : goal.decreases-loop-end
decreases-loop-end l = length l.image - l.at
