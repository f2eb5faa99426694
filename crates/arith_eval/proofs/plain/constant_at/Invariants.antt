-- What the digits so far come to.
use Rattle.arith_eval.proofs.Decimals.{Tells}
use Rattle.arith_eval.proofs.plain.constant_at.Given as goal

abbrev pub invariant-loop-i : goal.invariant-loop-i
invariant-loop-i l = Tells l.text l.from l.n l.i
