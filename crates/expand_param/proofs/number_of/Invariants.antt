-- The digits passed come to n, or to the greatest number.
use Rattle.expand_param.proofs.Digits.{Read}
use Rattle.expand_param.proofs.number_of.Given as goal

abbrev pub invariant-loop-digit : goal.invariant-loop-digit
invariant-loop-digit l = Read l.digits l.n l.digit-index
