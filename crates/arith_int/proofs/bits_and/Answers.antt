-- By the bits of both.
use Rattle.arith_int.proofs.Bitwise.{and_is}
use Rattle.arith_int.proofs.bits_and.Goals as goal

pub returns : goal.returns
returns c = and_is c.args.a c.args.b c.ranges.a c.ranges.b
