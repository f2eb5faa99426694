-- None of the places from the one at hand on passes.
use Rattle.pattern_remove.proofs.Placing.{Falling}
use Rattle.pattern_remove.proofs.last_place.Given as goal

abbrev pub invariant-loop-place : goal.invariant-loop-place
invariant-loop-place l = Falling l.sets l.segment l.value l.top l.place
