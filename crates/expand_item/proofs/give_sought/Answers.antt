-- What is refused where it is looked up is refused here.
use Rattle.std.proofs.lemmas.Result.{err_from_is_err_and}
use Rattle.stages.specs.Outcome.{done}
use Rattle.stages.specs.Units.{marked, expanded_mark}
use Rattle.row.specs.Marks.{mark_of}
use Rattle.expand_item.proofs.Seeking.{refused_measured}
use Rattle.expand_item.proofs.give_sought.Goals as goal

pub returns-in_err-sought : goal.returns-in_err-sought
returns-in_err-sought c =
    let a = c.args in
    let p = err_from_is_err_and c.from_residual.result c.from_residual.ensures.1 in
    rw (p.1, p.2) (refused_measured a.row.units (λ t. done (marked (expanded_mark (mark_of a.row.mark)) t)) c.in_err-sought.ensures)
