use Rattle.std.proofs.Common.{arith}
use Rattle.text_copy.proofs.Moves.{down_step, up_starts, ups, up_ends}
use Rattle.text_copy.proofs.shift.Goals as goal

pub loop-i-preserved : goal.loop-i-preserved
loop-i-preserved c =
    down_step _ _ _ _ (omega (arith, c.requires)) (omega (arith, c.requires)) _ _ c.loop-i.invariant (omega (arith, c.if-to-from.true)) c.loop-i-test.true

pub loop-i-else-to-from-init : goal.loop-i-else-to-from-init
loop-i-else-to-from-init c = up_starts _ _ _ _ (omega (arith, c.requires)) (omega (arith, c.requires))

pub loop-i-else-to-from-preserved : goal.loop-i-else-to-from-preserved
loop-i-else-to-from-preserved c =
    ups _ _ _ _ (omega (arith, c.requires)) (omega (arith, c.requires)) _ _ c.loop-i-else-to-from.invariant (omega (arith, c.if-to-from.false))
    (omega (arith, c.loop-i-else-to-from-test.true))

pub returns-after-loop-i-else-to-from : goal.returns-after-loop-i-else-to-from
returns-after-loop-i-else-to-from c =
    up_ends _ _ _ _ (omega (arith, c.requires)) (omega (arith, c.requires)) _ _ c.loop-i-else-to-from.invariant
    (omega (arith, c.loop-i-else-to-from-test.false))
