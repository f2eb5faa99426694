-- Bare bytes and what is quoted in turn: what was passed is said in front of what is behind it.
use Prim.Native.Nat.{◌-◌}
use lib.ListN.{length}
use Rattle.read_still.proofs.Walking.{Passing}
use Rattle.read_still.proofs.still_end.Given as goal

abbrev pub invariant-loop-at : goal.invariant-loop-at
invariant-loop-at l = Passing l.line l.at l.i

abbrev pub decreases-loop-at : goal.decreases-loop-at
decreases-loop-at l = length l.line - l.i
