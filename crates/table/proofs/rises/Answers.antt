-- `table::rises` meets its contract: up to `i` words the two texts are the same, and the first word that differs, or what stands behind, decides.
use Rattle.std.proofs.Common.{arith}
use Rattle.table.proofs.Words.{rising_at, words_differ, words_same}
use Rattle.table.proofs.rises.Goals as goal

pub returns-then-x-y : goal.returns-then-x-y
returns-then-x-y c = words_differ c.loop-i.invariant (omega arith) (omega arith) c.word-x.ensures c.word-y.ensures c.if-x-y.true

pub loop-i-preserved : goal.loop-i-preserved
loop-i-preserved c =
    rising_at (words_same c.loop-i.invariant (omega arith) (omega arith) c.word-x.ensures c.word-y.ensures c.if-x-y.false) (omega arith)
