-- The table's text was tested to be the class's.
use Rattle.pattern_class.proofs.Table.{row_length}
use Rattle.pattern_class.proofs.written_length.Goals as goal

pub returns : goal.returns
returns c = row_length c.args.row c.requires c.class_of.ensures
