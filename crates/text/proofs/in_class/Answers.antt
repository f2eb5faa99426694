use Rattle.std.proofs.Common.{arith}
use Rattle.text.proofs.ClassTable.{low_bit, high_bit, upper_bit}
use Rattle.text.proofs.in_class.Goals as goal

pub returns-then-b-lt64 : goal.returns-then-b-lt64
returns-then-b-lt64 c = rw c.words_of.ensures (low_bit c.args.class c.args.b c.if-b-lt64.true)

pub returns-then-b-lt128 : goal.returns-then-b-lt128
returns-then-b-lt128 c = rw c.words_of.ensures (high_bit c.args.class c.args.b (omega (arith, c.if-b-lt64.false)) c.if-b-lt128.true)

pub returns-else-b-lt128 : goal.returns-else-b-lt128
returns-else-b-lt128 c = rw c.words_of.ensures (upper_bit c.args.class c.args.b (omega (arith, c.if-b-lt128.false)) c.ranges.b.fits)
