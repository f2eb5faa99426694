-- Up to the star before the place at hand, the shortest prefix ends at `low`; each turn goes on behind the next star.
use Prim.Native.Nat.{◌-◌}
use Rattle.pattern_remove.proofs.PrefixWalk.{Lowered}
use Rattle.pattern_remove.proofs.shortest_prefix.Given as goal

abbrev pub invariant-loop-from : goal.invariant-loop-from
invariant-loop-from l = Lowered l.sets l.cells l.value l.from l.last l.low

abbrev pub decreases-loop-from : goal.decreases-loop-from
decreases-loop-from l = l.last - l.from
