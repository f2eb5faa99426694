-- Its test is the stage's.
use Rattle.recipe_cut.proofs.Saying.{said_ok, said_no}
use Rattle.recipe_cut.proofs.put_answer.Goals as goal

pub returns-then-number-eq-ACCEPTED : goal.returns-then-number-eq-ACCEPTED
returns-then-number-eq-ACCEPTED c = rw (said_ok c.args.number c.args.place _ c.if-number-eq-ACCEPTED.true) c.put_ok.ensures

pub returns-else-number-eq-ACCEPTED : goal.returns-else-number-eq-ACCEPTED
returns-else-number-eq-ACCEPTED c = rw (said_no c.args.number c.args.place _ c.if-number-eq-ACCEPTED.false) c.put_no.ensures
