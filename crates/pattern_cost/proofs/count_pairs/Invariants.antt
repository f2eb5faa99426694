-- All that is reached is what was counted with what the row at hand leads to; behind the last element its row is counted.
use Rattle.std.proofs.Common.{◌-◌, length}
use Rattle.pattern_cost.proofs.Counting.{Counting}
use Rattle.pattern_cost.proofs.count_pairs.Given as goal

abbrev pub invariant-loop-at : goal.invariant-loop-at
invariant-loop-at l = Counting l.pattern l.text l.area l.at l.base l.count

abbrev pub decreases-loop-at : goal.decreases-loop-at
decreases-loop-at l = length l.pattern - l.at
