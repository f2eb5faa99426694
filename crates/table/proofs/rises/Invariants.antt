use Rattle.std.proofs.Common.{◌*◌}
use Rattle.table.proofs.Words.{Rising}
use Rattle.table.proofs.rises.Given as goal

abbrev pub invariant-loop-i : goal.invariant-loop-i
invariant-loop-i l = Rising l.last l.key (8 * l.i)
