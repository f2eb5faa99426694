-- What is kept of the units before `unit` stands at the front, and behind it the row is as it was.
use Rattle.std.proofs.Common.{◌*◌}
use Rattle.pattern_row.proofs.Keeping.{Going}
use Rattle.pattern_row.proofs.drop_empty.Given as goal

abbrev pub invariant-loop-unit : goal.invariant-loop-unit
invariant-loop-unit l = Going l.initial.row l.row (2 * l.unit) l.to
