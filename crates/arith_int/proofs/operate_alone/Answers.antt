-- Each sign's answer is that of its operation, of the number that the code holds; no other operator has one.
use mathlib.Core.Path.{◌∙◌}
use Rattle.stages.specs.Arith.{apply_alone, flipped}
use Rattle.arith_int.proofs.Ranges.{held, zero_bits, told}
use Rattle.arith_int.proofs.Bitwise.{other_bits, flipped_fits}
use Rattle.arith_int.proofs.Operators.{no_alone}
use borrow.Enum.Refused.{opened}
use Rattle.arith_int.proofs.operate_alone.Goals as goal

pub returns-in-Add : goal.returns-in-Add
unfolding apply_alone
returns-in-Add c = rw (c.in-Add.is, held c.args.a c.ranges.a)

pub returns-in-Sub : goal.returns-in-Sub
unfolding apply_alone
returns-in-Sub c = rw c.in-Sub.is (c.negate.ensures ∙ rw (held c.args.a c.ranges.a))

pub returns-in-LogNot : goal.returns-in-LogNot
unfolding apply_alone
returns-in-LogNot c = rw c.in-LogNot.is (told _ _ (c.truth.ensures ∙ rw (zero_bits c.args.a c.ranges.a)))

pub returns-in-BitNot : goal.returns-in-BitNot
unfolding apply_alone
returns-in-BitNot c = rw (c.in-BitNot.is, held c.args.a c.ranges.a, other_bits c.args.a, held (flipped c.args.a) (flipped_fits c.args.a c.ranges.a))

pub returns-in_default : goal.returns-in_default
unfolding apply_alone
returns-in_default c = no_alone c.args.op c.args.a (opened c.in_default.in_default-own.keys5)
