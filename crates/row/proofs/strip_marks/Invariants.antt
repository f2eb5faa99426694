use Rattle.std.proofs.Common.{◌*◌}
use Rattle.row.proofs.Laws.{Stripping}
use Rattle.row.proofs.strip_marks.Given as goal

abbrev pub invariant-loop-at : goal.invariant-loop-at
invariant-loop-at l = Stripping l.initial.row l.row l.kept (2 * l.at)
