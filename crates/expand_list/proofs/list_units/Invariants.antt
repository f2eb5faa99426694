-- What is counted and what the texts ahead take are together what they all take.
use Rattle.std.proofs.Common.{◌-◌, length}
use Rattle.expand_list.proofs.Counting.{Summing}
use Rattle.expand_list.proofs.list_units.Given as goal

abbrev pub invariant-loop-end : goal.invariant-loop-end
invariant-loop-end l = Summing l.params l.gap l.units l.before l.at

abbrev pub decreases-loop-end : goal.decreases-loop-end
decreases-loop-end l = length l.params - l.at
