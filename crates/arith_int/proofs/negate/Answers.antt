-- What `checked_neg` answers is the result, where that fits.
use Rattle.arith_int.proofs.Ranges.{held, checked}
use Rattle.arith_int.proofs.negate.Goals as goal

pub returns : goal.returns
returns c = rw c.ok_or.ensures.value (checked _ _ (rw (held c.args.a c.ranges.a) at c.checked_neg.ensures))
