-- `table::frame_at` meets its contract: the bytes that are left and the length that the first two say decide.
use Rattle.std.proofs.Common.{arith}
use Rattle.table.proofs.Pieces.{frame_end, frame_one, frame_long, frame_text}
use Rattle.table.proofs.frame_at.Goals as goal

pub returns-then-image-at : goal.returns-then-image-at
returns-then-image-at c = frame_end _ _ c.if-image-at.true

pub returns-then-left-eq1 : goal.returns-then-left-eq1
returns-then-left-eq1 c = frame_one _ _ c.if-left-eq1.true

pub returns-then-left-n : goal.returns-then-left-n
returns-then-left-n c = frame_long _ _ _ c.size_at-n.ensures (omega arith) c.if-left-n.true

pub returns : goal.returns
returns c = frame_text _ _ _ c.size_at-n.ensures (omega arith) c.if-left-n.false
