-- What stands before `i` is read and stands in the buffer.
use Rattle.std.proofs.Common.{length, ◌-◌}
use Rattle.tab_escape.proofs.Escaping.{Front}
use Rattle.tab_escape.proofs.read_text.Given as goal

abbrev pub invariant-loop-i : goal.invariant-loop-i
invariant-loop-i l = Front l.text l.initial.out l.out l.used l.i

abbrev pub decreases-loop-i : goal.decreases-loop-i
decreases-loop-i l = length l.text - l.i
