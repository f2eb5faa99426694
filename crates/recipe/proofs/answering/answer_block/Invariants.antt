-- Each turn goes on in the block where the last one ended, with the next number.
use Rattle.std.proofs.Common.{◌≡◌, ◌-◌, length}
use Rattle.recipe.proofs.Running.{Goes}
use Rattle.recipe.proofs.answering.answer_block.Given as goal

abbrev pub invariant-loop-so_far : goal.invariant-loop-so_far
invariant-loop-so_far l =
    Goes l.homes l.paths l.params l.block l.initial.line l.initial.vars l.initial.said l.initial.so_far l.line l.vars l.said l.so_far l.at
    × (length l.work ≡ length l.initial.work)

abbrev pub decreases-loop-so_far : goal.decreases-loop-so_far
decreases-loop-so_far l = length l.block - l.at
