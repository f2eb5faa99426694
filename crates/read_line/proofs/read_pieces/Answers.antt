-- The next piece decides.
use Rattle.read_line.proofs.Lines.{walks_read, walks_fault, walks_next}
use Rattle.read_line.proofs.read_pieces.Goals as goal

pub returns-in-Err : goal.returns-in-Err
returns-in-Err c = walks_fault c.loop-place.invariant c.in-Some.ensures c.in-Err.ensures

pub loop-place-preserved : goal.loop-place-preserved
loop-place-preserved c = walks_next c.loop-place.invariant c.in-Some.ensures c.in-Ok.ensures

pub returns : goal.returns
returns c = walks_read c.loop-place.invariant c.in_default.ensures
