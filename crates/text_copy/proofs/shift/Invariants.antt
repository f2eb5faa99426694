-- Down, the first `i` bytes have come to their place; up, those from the place `i` on have.
use Rattle.text_copy.proofs.Moves.{Down, Up}
use Rattle.text_copy.proofs.shift.Given as goal

abbrev pub invariant-loop-i : goal.invariant-loop-i
invariant-loop-i l = Down l.fn.area l.from l.to l.count l.area l.i

abbrev pub invariant-loop-i-else-to-from : goal.invariant-loop-i-else-to-from
invariant-loop-i-else-to-from l = Up l.fn.area l.from l.to l.count l.area l.i
