-- Each turn reads one digit more.
use Rattle.arith_constant.proofs.Digits.{Read}
use Rattle.arith_constant.proofs.in_base.Given as goal

abbrev pub invariant-loop-b : goal.invariant-loop-b
invariant-loop-b l = Read l.base l.limit l.text l.n l.b-index
