-- The units passed are no signs of patterns.
use Rattle.std.proofs.Common.{◌*◌}
use Rattle.pattern_row.proofs.Plain.{Seeking}
use Rattle.pattern_row.proofs.is_plain.Given as goal

abbrev pub invariant-loop-k : goal.invariant-loop-k
invariant-loop-k l = Seeking l.row (2 * l.k)
