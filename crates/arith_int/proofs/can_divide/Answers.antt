-- By zero no division is given; else the quotient fits, but for the smallest number by -1.
use lib.IntN.{pos, negsuc}
use mir.Facts.{sfits_lit}
use Rattle.arith_int.proofs.Ranges.{least, bits_eq, by_zero, least_divided}
use Rattle.arith_int.proofs.can_divide.Goals as goal

pub returns-then-b-eq0 : goal.returns-then-b-eq0
returns-then-b-eq0 c = λ f. by_zero f c.args.a c.args.b (bits_eq c.args.b (pos 0) c.ranges.b (sfits_lit tt) c.if-b-eq0.true)

pub returns-then-a-eqminus9223372036854775808 : goal.returns-then-a-eqminus9223372036854775808
returns-then-a-eqminus9223372036854775808 c = λ f.
    least_divided f c.args.a c.args.b (bits_eq c.args.b (negsuc 0) c.ranges.b (sfits_lit tt) c.if-b-eqminus1.true)
    (bits_eq c.args.a least c.ranges.a (sfits_lit tt) c.if-a-eqminus9223372036854775808.true)
