-- What is left of the text.
use Prim.Native.Nat.{◌-◌}
use lib.ListN.{length}
use Rattle.arith_eval.proofs.Plainly.{Plods}
use Rattle.arith_eval.proofs.plain.+plain_from.Given as goal

abbrev pub decreases-plain_from : goal.decreases-plain_from
decreases-plain_from l = length l.text.now - l.at

abbrev pub invariant-loop-sign : goal.invariant-loop-sign
invariant-loop-sign l = Plods l.text l.at l.least l.left l.value l.i

abbrev pub decreases-loop-sign : goal.decreases-loop-sign
decreases-loop-sign l = length l.text - l.i
