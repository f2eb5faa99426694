-- By the bits of both.
use Rattle.arith_int.proofs.Bitwise.{xor_is}
use Rattle.arith_int.proofs.bits_xor.Goals as goal

pub returns : goal.returns
returns c = xor_is c.args.a c.args.b c.ranges.a c.ranges.b
