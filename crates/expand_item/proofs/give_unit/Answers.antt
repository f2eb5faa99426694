-- One unit fits after fewer than 2,048.
use Rattle.std.proofs.Common.{arith}
use Rattle.expand_add.proofs.Fitting.{measured_full}
use Rattle.expand_item.proofs.give_unit.Goals as goal

pub returns-then-row-ge-ROW_LIMIT : goal.returns-then-row-ge-ROW_LIMIT
returns-then-row-ge-ROW_LIMIT c = measured_full c.args.row.units _ (omega arith)
