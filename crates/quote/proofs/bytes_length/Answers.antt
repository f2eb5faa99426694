-- `quote::bytes_length` meets its contract: what is counted and what the bytes from `i` on take are together what the field takes.
use native.Mathlib.Omega.{arith}
use Rattle.quote.proofs.Lengths.{counted_small, counted_more, counted_ends}
use Rattle.quote.proofs.bytes_length.Goals as goal

pub overflow_add-n : goal.overflow_add-n
overflow_add-n c = omega (arith, counted_small (counted_more c.loop-b.invariant _ c.loop-b-test.true c.byte_length-n.ensures), c.requires)

pub loop-b-preserved : goal.loop-b-preserved
loop-b-preserved c = counted_more c.loop-b.invariant _ c.loop-b-test.true c.byte_length-n.ensures

pub returns : goal.returns
returns c = counted_ends c.loop-b.invariant c.loop-b-test.false
