-- Where two numbers can be divided the result is given.
use lib.Signed.{rem_z}
use Rattle.std.specs.Prelude.{Ok}
use Rattle.arith_int.specs.Answers.{Divides}
use Rattle.arith_int.proofs.Ranges.{held, divides_shown, divided_is, rem_fits}
use Rattle.arith_int.proofs.remainder.Goals as goal

pub returns : goal.returns
returns c =
    let fine : Divides c.args.a c.args.b (Ok tt) = divides_shown c.ranges.a c.ranges.b c.can_divide.ensures c.in_ok-can_divide.was in
    rw (held c.args.a c.ranges.a, held c.args.b c.ranges.b, held (rem_z c.args.a c.args.b) (rem_fits c.args.a c.args.b c.ranges.a))
    (divided_is rem_z c.args.a c.args.b fine.0 fine.1)
