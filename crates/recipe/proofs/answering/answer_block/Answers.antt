-- A turn goes on where the last one ended: it has answered a line, or the block ran out within one.
use Rattle.std.proofs.Common.{◌∙◌, arith, rules}
use borrow.Author.Tests.{ltb-false}
use Rattle.stages.proofs.Bools.{apart}
use Rattle.recipe_cut.proofs.Callers.{next_turn}
use Rattle.recipe.proofs.Running.{turned_open, turned_told, one_spoken, goes_line, passes_open, passes_left}
use Rattle.recipe.proofs.answering.answer_block.Goals as goal

pub returns-in-Open : goal.returns-in-Open
returns-in-Open c = passes_open c.loop-so_far.invariant.0 (turned_open c.answer_next-turn.ensures.0 c.in-Open.is)

pub write_answer-is_written-requires : goal.write_answer-is_written-requires
write_answer-is_written-requires c = one_spoken _ (turned_told c.answer_next-turn.ensures.0 c.in-Answered.is).says

pub loop-so_far-smaller : goal.loop-so_far-smaller
loop-so_far-smaller c =
    let i = c.loop-so_far.invariant.0 in
    let n = next_turn _ _ _ (turned_told c.answer_next-turn.ensures.0 c.in-Answered.is).ends i.inside in
    omega (arith, n.0, n.1)

pub loop-so_far-preserved : goal.loop-so_far-preserved
loop-so_far-preserved c =
    let n = c.answer_next-turn in (
      goes_line c.loop-so_far.invariant.0 c.write_answer-is_written.result (turned_told n.ensures.0 c.in-Answered.is) c.next_number.ensures
          n.auto.line n.auto.vars n.auto.said,
      n.auto.work ∙ c.loop-so_far.invariant.1,
    )

pub returns-else-at-block : goal.returns-else-at-block
returns-else-at-block c = passes_left c.loop-so_far.invariant.0 (λ e. c.if-at-block.false)

pub returns-after-loop-so_far : goal.returns-after-loop-so_far
returns-after-loop-so_far c = passes_left c.loop-so_far.invariant.0 (λ e. absurd (apart c.loop-so_far-test.false e))
