-- What `checked_sub` answers is the result, where that fits.
use Rattle.arith_int.proofs.Ranges.{held, checked}
use Rattle.arith_int.proofs.difference.Goals as goal

pub returns : goal.returns
returns c = rw c.ok_or.ensures.value (checked _ _ (rw (held c.args.a c.ranges.a, held c.args.b c.ranges.b) at c.checked_sub.ensures))
