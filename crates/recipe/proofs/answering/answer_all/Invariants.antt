-- Each turn goes on from where the last one left the line and the variables.
use Rattle.std.proofs.Common.{◌≡◌, length}
use Rattle.recipe.proofs.Running.{Stands}
use Rattle.recipe.proofs.answering.answer_all.Given as goal

abbrev pub invariant-loop-turn : goal.invariant-loop-turn
invariant-loop-turn l =
    Stands l.homes l.paths l.params l.initial.vars l.initial.run.carried.vars_used l.initial.run.carried.shouts l.line l.vars l.said l.run
    × (length l.block ≡ length l.initial.block) × (length l.line ≡ length l.initial.line) × (length l.vars ≡ length l.initial.vars)
    × (length l.work ≡ length l.initial.work) × (length l.said ≡ length l.initial.said)
