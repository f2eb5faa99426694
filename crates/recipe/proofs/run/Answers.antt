-- Each table lies within its buffer, as the arguments do, and the lines are answered among them.
use Rattle.std.proofs.Common.{sym, ◌∙◌, arith, length-take-le}
use borrow.Author.Tests.{not-false}
use Rattle.stages.specs.Numbers.{image_limit}
use Rattle.recipe_load.proofs.Reading.{loads_held}
use Rattle.recipe.proofs.Loading.{answers_run}
use Rattle.recipe.proofs.run.Goals as goal

pub slice_bounds-answer_with-end-2 : goal.slice_bounds-answer_with-end-2
slice_bounds-answer_with-end-2 c = sym (length-take-le image_limit c.load.new.buffer (omega (arith, c.load.auto.buffer, c.requires.0)))

pub returns : goal.returns
returns c =
    let a = c.answer_with in
    let g = c.gather-heard in
    let k = a.auto.vars ∙ length-take-le image_limit c.load.new.buffer (omega (arith, c.load.auto.buffer, c.requires.0)) in
    λ _. answers_run (loads_held _ c.load.new.buffer c.in-Ok.is c.load.ensures) (sym c.requires.0)
    (loads_held _ c.load-2.new.buffer c.in-Ok-load.is c.load-2.ensures) c.load-2.auto.buffer
    (loads_held _ c.load-3.new.buffer c.in-Ok-load-2.is c.load-3.ensures) c.load-3.auto.buffer g.ensures
    (c.requires.2 ∙ sym g.auto.image) (not-false _ c.if-not-heard.false) a.ensures k
