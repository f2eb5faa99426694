-- What is kept is what stands before the line's end, and the newline is passed.
use Rattle.recipe_cut.proofs.Taking.{taken_ended, taken_open}
use Rattle.recipe_cut.proofs.take_in.Goals as goal

pub returns-then-end-block : goal.returns-then-end-block
returns-then-end-block c = taken_ended c.line_end-end.ensures c.keep-n.ensures c.if-end-block.true

pub returns-else-end-block : goal.returns-else-end-block
returns-else-end-block c = taken_open c.line_end-end.ensures c.keep-n.ensures c.if-end-block.false
