-- The cells stand for the elements before `at`, and the ends for the units beyond it. The measure is what is left.
use Prim.Native.Nat.{◌-◌}
use lib.ListN.{length}
use Rattle.pattern_settle.proofs.Settling.{Settling}
use Rattle.pattern_settle.proofs.settle_pieces.Given as goal

abbrev pub invariant-loop-at : goal.invariant-loop-at
invariant-loop-at l = Settling l.width l.path l.pattern l.cells l.sets l.at l.count l.used l.special

abbrev pub decreases-loop-at : goal.decreases-loop-at
decreases-loop-at l = length l.pattern - l.at
