-- The table's runs were tested at every byte.
use Rattle.pattern_class.proofs.Table.{row_runs}
use Rattle.pattern_class.proofs.runs.Goals as goal

pub returns : goal.returns
returns c = row_runs c.args.row c.requires c.class_of.ensures
