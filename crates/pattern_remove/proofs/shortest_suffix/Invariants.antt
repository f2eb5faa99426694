-- From the star at hand on, the shortest suffix begins at `top`; each turn goes on to the last star before it.
use Rattle.pattern_remove.proofs.SuffixWalk.{Topped}
use Rattle.pattern_remove.proofs.shortest_suffix.Given as goal

abbrev pub invariant-loop-star : goal.invariant-loop-star
invariant-loop-star l = Topped l.sets l.cells l.value l.first l.star l.top

abbrev pub decreases-loop-star : goal.decreases-loop-star
decreases-loop-star l = l.star
