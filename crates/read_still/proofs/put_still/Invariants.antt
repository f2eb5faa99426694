-- Bare bytes and what is quoted in turn, each put behind what was said before it.
use Prim.Native.Nat.{◌-◌}
use lib.ListN.{length}
use Rattle.read_still.proofs.Copying.{Copied}
use Rattle.read_still.proofs.put_still.Given as goal

abbrev pub invariant-loop-at : goal.invariant-loop-at
invariant-loop-at l = Copied l.line l.at l.initial.area l.i l.area l.n

abbrev pub decreases-loop-at : goal.decreases-loop-at
decreases-loop-at l = length l.line - l.i
