-- The area is cleared first, and only its length tells what is answered.
use Rattle.std.proofs.Common.{ℕ, sym, ◌∙◌, ap}
use Rattle.stages.specs.Call.{cleared}
use Rattle.call_cost.specs.Hands.{answer_as}
use Rattle.call_cost.proofs.Answering.{same_room, reported, refused_by}
use Rattle.call_cost.proofs.cost.Goals as goal

pub returns-in-Ok : goal.returns-in-Ok
unfolding cleared
returns-in-Ok c =
    let a = c.args in
    reported a.pattern.now a.text.now a.work.now (c.in-Ok.ensures.left ∙ c.fill_zero.ensures)
    (sym (same_room a.pattern.now a.text.now a.work.now c.fill_zero.new.area c.fill_zero.auto.area) ∙ c.in-Ok.ensures.counts)
    c.answer.ensures

pub returns-in-Err : goal.returns-in-Err
unfolding cleared
returns-in-Err c =
    let a = c.args in
    refused_by a.pattern.now a.text.now a.work.now (c.in-Err.ensures.left ∙ c.fill_zero.ensures) c.in-Err.refusal
    (sym (same_room a.pattern.now a.text.now a.work.now c.fill_zero.new.area c.fill_zero.auto.area) ∙ c.in-Err.ensures.counts)
    (c.answer-in-Err.ensures ∙ ap (λ (n : ℕ). answer_as n 0) c.number.ensures)
