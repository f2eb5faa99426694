-- The answer of `read_line` has the stage's number, whatever its case.
use Rattle.std.proofs.Common.{◌∙◌}
use Rattle.stages.specs.Read.{read_line}
use Rattle.test_measured.proofs.Counting.{told}
use Rattle.test_measured.proofs.measured_read.Goals as goal

pub returns-in-Ok : goal.returns-in-Ok
returns-in-Ok c = told (read_line c.args.line.now) c.read_line.ensures c.in-Ok.is

pub returns-in-Err : goal.returns-in-Err
returns-in-Err c = c.number.ensures ∙ told (read_line c.args.line.now) c.read_line.ensures c.in-Err.is
