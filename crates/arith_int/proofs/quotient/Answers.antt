-- Where two numbers can be divided the result is given.
use lib.Signed.{quot_z}
use Rattle.std.specs.Prelude.{Ok}
use Rattle.arith_int.specs.Answers.{Divides}
use Rattle.arith_int.proofs.Ranges.{held, divides_shown, divided_is}
use Rattle.arith_int.proofs.quotient.Goals as goal

pub returns : goal.returns
returns c =
    let fine : Divides c.args.a c.args.b (Ok tt) = divides_shown c.ranges.a c.ranges.b c.can_divide.ensures c.in_ok-can_divide.was in
    rw (held c.args.a c.ranges.a, held c.args.b c.ranges.b, held (quot_z c.args.a c.args.b) fine.1) (divided_is quot_z c.args.a c.args.b fine.0 fine.1)
