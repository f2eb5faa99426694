-- By the bits of both.
use Rattle.arith_int.proofs.Bitwise.{or_is}
use Rattle.arith_int.proofs.bits_or.Goals as goal

pub returns : goal.returns
returns c = or_is c.args.a c.args.b c.ranges.a c.ranges.b
