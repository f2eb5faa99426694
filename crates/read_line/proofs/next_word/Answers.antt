-- The run of blanks ends where the next word begins.
use Rattle.read_line.proofs.Lines.{next_at, next_none}
use Rattle.read_line.proofs.next_word.Goals as goal

pub returns-then-place-line : goal.returns-then-place-line
returns-then-place-line c = next_at c.args.line.now c.args.at c.run_end-place.result c.run_end-place.ensures c.if-place-line.true

pub returns-else-place-line : goal.returns-else-place-line
returns-else-place-line c = next_none c.args.line.now c.args.at c.run_end-place.result c.run_end-place.ensures c.if-place-line.false
