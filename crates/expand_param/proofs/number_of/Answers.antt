use Rattle.std.proofs.Common.{arith}
use Rattle.expand_param.proofs.Digits.{read_more, read_most, read_number}
use Rattle.expand_param.proofs.number_of.Goals as goal

pub loop-digit-preserved : goal.loop-digit-preserved
loop-digit-preserved c = read_more c.loop-digit.invariant c.loop-digit-test.true (omega arith)

pub returns-then-n : goal.returns-then-n
returns-then-n c =
    read_most
    (read_more c.loop-digit.invariant c.loop-digit-test.true
    (omega (arith, c.saturating_add-n.ensures, c.saturating_mul.ensures, c.saturating_sub-value.ensures)))
    c.if-n.true

pub returns-after-loop-digit : goal.returns-after-loop-digit
returns-after-loop-digit c = read_number c.loop-digit.invariant c.loop-digit-test.false
