-- A left operand of `&&` decides where it is zero, one of `||` where it is not; no other does.
use lib.IntN.{pos}
use mir.Facts.{sfits_lit}
use Rattle.stages.specs.Arith.{early}
use Rattle.arith_int.proofs.Ranges.{bits_eq, bits_ne, not_zero_lem}
use Rattle.arith_int.proofs.Operators.{no_early}
use borrow.Enum.Refused.{opened}
use Rattle.arith_int.proofs.decided.Goals as goal

pub returns-then-a-eq0 : goal.returns-then-a-eq0
unfolding early
returns-then-a-eq0 c = rw (c.in-LogAnd.is, bits_eq c.args.a (pos 0) c.ranges.a (sfits_lit tt) c.if-a-eq0.true)

pub returns-else-a-eq0 : goal.returns-else-a-eq0
unfolding early
returns-else-a-eq0 c = rw (c.in-LogAnd.is, not_zero_lem c.args.a (bits_ne c.args.a (pos 0) c.if-a-eq0.false))

pub returns-then-a-eq0-2 : goal.returns-then-a-eq0-2
unfolding early
returns-then-a-eq0-2 c = rw (c.in-LogOr.is, bits_eq c.args.a (pos 0) c.ranges.a (sfits_lit tt) c.if-a-eq0-2.true)

pub returns-else-a-eq0-2 : goal.returns-else-a-eq0-2
unfolding early
returns-else-a-eq0-2 c = rw (c.in-LogOr.is, not_zero_lem c.args.a (bits_ne c.args.a (pos 0) c.if-a-eq0-2.false))

pub returns-in_default : goal.returns-in_default
unfolding early
returns-in_default c = no_early c.args.op c.args.a (opened c.in_default.in_default-own.keys3)
