-- Each line is applied to what those before it left.
use Rattle.std.proofs.Common.{◌∙◌, arith}
use Rattle.tab_assign.proofs.Walking.{line_there, going_end, going_stops, going_passes, going_more}
use Rattle.tab_assign.proofs.assign_lines.Goals as goal

pub overflow_add-end : goal.overflow_add-end
overflow_add-end c = omega (arith, going_end (line_there c.loop-asked.invariant.0 c.find.ensures))

pub slice_bounds-assign-end : goal.slice_bounds-assign-end
slice_bounds-assign-end c = going_end (line_there c.loop-asked.invariant.0 c.find.ensures)

pub returns-then-answer-ne-ACCEPTED : goal.returns-then-answer-ne-ACCEPTED
returns-then-answer-ne-ACCEPTED c = going_stops (line_there c.loop-asked.invariant.0 c.find.ensures) c.assign-answer.ensures c.if-answer-ne-ACCEPTED.true

pub returns-then-text-end : goal.returns-then-text-end
returns-then-text-end c =
    going_passes (line_there c.loop-asked.invariant.0 c.find.ensures) c.assign-answer.ensures c.if-answer-ne-ACCEPTED.false c.if-text-end.true

pub loop-asked-preserved : goal.loop-asked-preserved
loop-asked-preserved c =
    let a = c.assign-answer in (
      going_more (line_there c.loop-asked.invariant.0 c.find.ensures) a.ensures c.if-answer-ne-ACCEPTED.false c.if-text-end.false,
      a.auto.vars ∙ c.loop-asked.invariant.1,
      a.auto.work ∙ c.loop-asked.invariant.2,
      a.auto.message ∙ c.loop-asked.invariant.3,
    )
