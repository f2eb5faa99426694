-- The elements before `at` are counted, and none of them met what is 19.
use Rattle.std.proofs.Common.{◌-◌, length}
use Rattle.pattern_cost.proofs.Tallying.{Tallied}
use Rattle.pattern_cost.proofs.count_elements.Given as goal

abbrev pub invariant-loop-at : goal.invariant-loop-at
invariant-loop-at l = Tallied l.pattern l.at l.elements

abbrev pub decreases-loop-at : goal.decreases-loop-at
decreases-loop-at l = length l.pattern - l.at
