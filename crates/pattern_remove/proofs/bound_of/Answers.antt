-- Without a star nothing bounds; else the walk says.
use Rattle.pattern_remove.proofs.Stars.{stars_at}
use Rattle.pattern_remove.proofs.Deciding.{nothing_left, some_left}
use Rattle.pattern_remove.proofs.bound_of.Goals as goal

pub shortest-requires-clause-stars_at : goal.shortest-requires-clause-stars_at
shortest-requires-clause-stars_at c = stars_at c.first_star-first.ensures c.last_star-last.ensures c.if-last-eq0.false

pub returns-in-None : goal.returns-in-None
returns-in-None c =
    nothing_left c.args.value.now c.args.suffix c.first_star-first.result c.last_star-last.result c.shortest.ensures c.in-None.is

pub returns-in-Some : goal.returns-in-Some
returns-in-Some c =
    some_left c.args.value.now c.args.suffix c.first_star-first.result c.last_star-last.result c.shortest.ensures
    (stars_at c.first_star-first.ensures c.last_star-last.ensures c.if-last-eq0.false) c.in-Some.is
