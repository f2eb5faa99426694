-- None of the places before the one at hand passes.
use Rattle.pattern_remove.proofs.Placing.{Rising}
use Rattle.pattern_remove.proofs.first_place.Given as goal

abbrev pub invariant-loop-at : goal.invariant-loop-at
invariant-loop-at l = Rising l.sets l.segment l.value l.low l.at
