-- Its test is the stage's.
use Rattle.recipe_cut.proofs.Telling.{next_more, next_same}
use Rattle.recipe_cut.proofs.next_number.Goals as goal

pub returns-then-n-lt-COUNT_LIMIT : goal.returns-then-n-lt-COUNT_LIMIT
returns-then-n-lt-COUNT_LIMIT c = next_more c.args.n c.if-n-lt-COUNT_LIMIT.true

pub returns-else-n-lt-COUNT_LIMIT : goal.returns-else-n-lt-COUNT_LIMIT
returns-else-n-lt-COUNT_LIMIT c = next_same c.args.n c.if-n-lt-COUNT_LIMIT.false
