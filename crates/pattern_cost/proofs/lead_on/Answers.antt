-- What is set is what the pair leads to, by the branches of the code.
use Rattle.std.proofs.Common.{arith}
use Rattle.pattern_cost.proofs.Marking.{lead_row, lead_star, lead_both, lead_nowhere}
use Rattle.pattern_cost.proofs.lead_on.Goals as goal

pub returns-then-more : goal.returns-then-more
returns-then-more c =
    let a = c.args in
    lead_star a.area.now a.here a.width (omega arith) a.star a.more a.taken c.if-star.true c.if-more.true

pub returns-else-more : goal.returns-else-more
returns-else-more c =
    let a = c.args in
    lead_row a.area.now a.here a.width (omega arith) a.star a.more a.taken c.if-star.true c.if-more.false

pub returns-then-taken : goal.returns-then-taken
returns-then-taken c =
    let a = c.args in
    lead_both a.area.now a.here a.width (omega arith) a.star a.more a.taken c.if-star.false c.if-taken.true

pub returns-else-taken : goal.returns-else-taken
returns-else-taken c =
    let a = c.args in
    lead_nowhere a.area.now a.here a.width (omega arith) a.star a.more a.taken c.if-star.false c.if-taken.false
