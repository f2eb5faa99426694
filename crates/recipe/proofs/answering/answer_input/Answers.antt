-- By what a read gave.
use Rattle.std.proofs.Common.{◌≡◌, Ok, Some, None, ap, ◌∙◌, refl, rules}
use Rattle.recipe.proofs.Running.{comes_counts, follows_block, follows_end, follows_failure}
use Rattle.recipe.proofs.answering.answer_input.Goals as goal

pub slice_bounds-answer_block-end : goal.slice_bounds-answer_block-end
slice_bounds-answer_block-end c =
    let k : c.args.came.input ≡ Ok (Some c.in-Ok-Some.n) = search rules in
    (comes_counts c.args.block.now k c.requires.1).1

pub returns-in-Ok-Some : goal.returns-in-Ok-Some
returns-in-Ok-Some c =
    let k : c.args.came.input ≡ Ok (Some c.in-Ok-Some.n) = search rules in
    follows_block k c.answer_block.ensures

pub returns-in-Ok-None : goal.returns-in-Ok-None
returns-in-Ok-None c =
    let k : c.args.came.input ≡ Ok None = search rules in
    follows_end k c.answer_end.ensures

pub returns-in-Err : goal.returns-in-Err
returns-in-Err c =
    follows_failure c.in-Err.is (record { stops = refl; same_vars = refl; same_used = refl; same_line = refl; same_said = refl })
