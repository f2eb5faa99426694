-- What is found of the name decides, then the value is read.
use Rattle.read_line.proofs.Naming.{bad_read, value_read}
use Rattle.read_line.proofs.read_assignment.Goals as goal

pub returns-in_default : goal.returns-in_default
returns-in_default c = bad_read c.args.line.now c.args.place c.in_default.ensures

pub returns : goal.returns
returns c = value_read c.args.line.now c.args.place c.in-Some.equals c.in-Some.ensures c.read_from.result c.read_from.ensures
