-- The area is the first `i` bytes of the text, and then the area as it was.
use Rattle.std.proofs.Common.{◌≡◌, ◌++◌, length, take, drop}
use Rattle.text_copy.proofs.copy_in.Given as goal

abbrev pub invariant-loop-i : goal.invariant-loop-i
invariant-loop-i l = (l.to ≡ take l.i l.from ++ drop l.i l.fn.to) × (length l.to ≡ length l.fn.to)
