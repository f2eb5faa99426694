-- Up to `i` the two texts are the same, and so are their answers and those of what is left.
use Rattle.text.proofs.Orders.{Alike}
use Rattle.text.proofs.compare.Given as goal

abbrev pub invariant-loop-i : goal.invariant-loop-i
invariant-loop-i l = Alike l.a l.b l.i
