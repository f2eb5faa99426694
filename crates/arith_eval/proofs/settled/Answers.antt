-- What the run that counts gives, and of what it refuses the refusal that comes first.
use Rattle.arith_eval.specs.Climbs.{alone}
use Rattle.arith_eval.proofs.Texts.{counted_says}
use Rattle.arith_eval.proofs.settled.Goals as goal

pub returns-in-Ok : goal.returns-in-Ok
returns-in-Ok c =
    let a = c.args in
    rw c.in-Ok.is (counted_says (alone a.vars_room a.shouts) a.text.now a.vars.now a.vars_used _ c.in-Ok.field-0 c.in-Ok.ensures)
