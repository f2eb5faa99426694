-- Each operator's answer is that of its function, of the numbers that the code holds.
use mathlib.Core.Path.{ap, ◌∙◌}
use Rattle.stages.specs.Outcome.{done}
use Rattle.stages.specs.Arith.{apply}
use Rattle.arith_int.proofs.Ranges.{held, kept, same_bits, zero_bits, told}
use Rattle.arith_int.proofs.operate.Goals as goal

pub returns-in-Mul : goal.returns-in-Mul
unfolding apply
returns-in-Mul c = rw c.in-Mul.is (c.product.ensures ∙ rw (held c.args.a c.ranges.a, held c.args.b c.ranges.b))

pub returns-in-Div : goal.returns-in-Div
unfolding apply
returns-in-Div c = rw c.in-Div.is (c.quotient.ensures ∙ rw (held c.args.a c.ranges.a, held c.args.b c.ranges.b))

pub returns-in-Rem : goal.returns-in-Rem
unfolding apply
returns-in-Rem c = rw c.in-Rem.is (c.remainder.ensures ∙ rw (held c.args.a c.ranges.a, held c.args.b c.ranges.b))

pub returns-in-Add : goal.returns-in-Add
unfolding apply
returns-in-Add c = rw c.in-Add.is (c.sum.ensures ∙ rw (held c.args.a c.ranges.a, held c.args.b c.ranges.b))

pub returns-in-Sub : goal.returns-in-Sub
unfolding apply
returns-in-Sub c = rw c.in-Sub.is (c.difference.ensures ∙ rw (held c.args.a c.ranges.a, held c.args.b c.ranges.b))

pub returns-in-Shl : goal.returns-in-Shl
unfolding apply
returns-in-Shl c = rw c.in-Shl.is (c.shift_left.ensures ∙ rw (held c.args.a c.ranges.a, held c.args.b c.ranges.b))

pub returns-in-Shr : goal.returns-in-Shr
unfolding apply
returns-in-Shr c = rw c.in-Shr.is (c.shift_right.ensures ∙ rw (held c.args.a c.ranges.a, held c.args.b c.ranges.b))

pub returns-in-Lt : goal.returns-in-Lt
unfolding apply
returns-in-Lt c = rw c.in-Lt.is (told _ _ (c.truth.ensures ∙ rw (held c.args.a c.ranges.a, held c.args.b c.ranges.b)))

pub returns-in-Le : goal.returns-in-Le
unfolding apply
returns-in-Le c = rw c.in-Le.is (told _ _ (c.truth-in-Le.ensures ∙ rw (held c.args.a c.ranges.a, held c.args.b c.ranges.b)))

pub returns-in-Gt : goal.returns-in-Gt
unfolding apply
returns-in-Gt c = rw c.in-Gt.is (told _ _ (c.truth-in-Gt.ensures ∙ rw (held c.args.a c.ranges.a, held c.args.b c.ranges.b)))

pub returns-in-Ge : goal.returns-in-Ge
unfolding apply
returns-in-Ge c = rw c.in-Ge.is (told _ _ (c.truth-in-Ge.ensures ∙ rw (held c.args.a c.ranges.a, held c.args.b c.ranges.b)))

pub returns-in-Eq : goal.returns-in-Eq
unfolding apply
returns-in-Eq c = rw c.in-Eq.is (told _ _ (c.truth-in-Eq.ensures ∙ rw (same_bits c.args.a c.args.b c.ranges.a c.ranges.b)))

pub returns-in-Ne : goal.returns-in-Ne
unfolding apply
returns-in-Ne c = rw c.in-Ne.is (told _ _ (c.truth-in-Ne.ensures ∙ rw (same_bits c.args.a c.args.b c.ranges.a c.ranges.b)))

pub returns-in-BitAnd : goal.returns-in-BitAnd
unfolding apply
returns-in-BitAnd c = rw c.in-BitAnd.is (ap done (kept c.bits_and.result c.bits_and.type_inv ∙ c.bits_and.ensures ∙ rw
    (held c.args.a c.ranges.a, held c.args.b c.ranges.b)))

pub returns-in-BitXor : goal.returns-in-BitXor
unfolding apply
returns-in-BitXor c = rw c.in-BitXor.is (ap done (kept c.bits_xor.result c.bits_xor.type_inv ∙ c.bits_xor.ensures ∙ rw
    (held c.args.a c.ranges.a, held c.args.b c.ranges.b)))

pub returns-in-BitOr : goal.returns-in-BitOr
unfolding apply
returns-in-BitOr c = rw c.in-BitOr.is (ap done (kept c.bits_or.result c.bits_or.type_inv ∙ c.bits_or.ensures ∙ rw
    (held c.args.a c.ranges.a, held c.args.b c.ranges.b)))

pub returns-in-LogAnd : goal.returns-in-LogAnd
unfolding apply
returns-in-LogAnd c = rw c.in-LogAnd.is (told _ _ (c.truth-in-LogAnd.ensures ∙ rw (zero_bits c.args.b c.ranges.b)))

pub returns-in-LogOr : goal.returns-in-LogOr
unfolding apply
returns-in-LogOr c = rw c.in-LogOr.is (told _ _ (c.truth-in-LogOr.ensures ∙ rw (zero_bits c.args.b c.ranges.b)))

pub returns-in-LogNot : goal.returns-in-LogNot
unfolding apply
returns-in-LogNot c = rw c.in-LogNot.is

pub returns-in-BitNot : goal.returns-in-BitNot
unfolding apply
returns-in-BitNot c = rw c.in-BitNot.is
