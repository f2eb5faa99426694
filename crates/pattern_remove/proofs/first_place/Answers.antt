-- The places from the first on up.
use native.Mathlib.Omega.{arith}
use Rattle.pattern_remove.proofs.Placing.{rise_short, rise_found, rise_end}
use Rattle.pattern_remove.proofs.first_place.Goals as goal

pub returns-then-value-segment : goal.returns-then-value-segment
returns-then-value-segment c = rise_short c.args.value.now c.args.low c.if-value-segment.true

pub returns-then-stands_at : goal.returns-then-stands_at
returns-then-stands_at c = rise_found c.loop-at.invariant c.stands_at.ensures (omega arith) c.if-stands_at.true

pub returns : goal.returns
returns c = rise_end c.loop-at.invariant (omega arith)
