-- A turn goes on from where the run stands, or the run has stopped.
use Rattle.std.proofs.Common.{refl, sym, ◌∙◌}
use borrow.Author.Tests.{not-false}
use Rattle.recipe.proofs.Running.{stands_starts, stands_ready, stands_answers, stands_follows}
use Rattle.recipe.proofs.answering.answer_all.Goals as goal

pub loop-turn-init : goal.loop-turn-init
loop-turn-init c = (
  stands_starts c.args.homes.now c.args.paths.now c.args.params.now c.args.vars.now c.args.asked.vars_used c.args.asked.shouts c.args.line.now
      c.args.said.now c.requires.0,
  refl,
  refl,
  refl,
  refl,
  refl,
)

pub answer_input-run-requires : goal.answer_input-run-requires
answer_input-run-requires c =
    (stands_ready c.loop-turn.invariant.0 (not-false _ c.if-not-run.false), c.read_block-input.ensures, c.requires.1 ∙ sym c.loop-turn.invariant.4)

pub loop-turn-preserved : goal.loop-turn-preserved
loop-turn-preserved c =
    let a = c.answer_input-run in (
      stands_follows c.loop-turn.invariant.0 (not-false _ c.if-not-run.false) a.ensures a.auto.line a.auto.said,
      c.read_block-input.auto.block ∙ c.loop-turn.invariant.1,
      a.auto.line ∙ c.loop-turn.invariant.2,
      a.auto.vars ∙ c.loop-turn.invariant.3,
      a.auto.work ∙ c.loop-turn.invariant.4,
      a.auto.said ∙ c.loop-turn.invariant.5,
    )

pub returns-after-loop-turn : goal.returns-after-loop-turn
returns-after-loop-turn c = stands_answers c.loop-turn.invariant.0

pub returns-then-not-run : goal.returns-then-not-run
returns-then-not-run c = stands_answers c.loop-turn.invariant.0
