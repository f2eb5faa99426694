-- The bytes that are left at the front come to the stage's number, and the variables behind it are those that are handed on.
use Rattle.std.proofs.Common.{◌*◌, false, arith, rules}
use Rattle.std.proofs.lemmas.Result.{err_from_is_err_and}
use lib.Seq.{length-take-le}
use Rattle.table.specs.Around.{lent_of}
use Rattle.row.specs.Marks.{mark_of}
use Rattle.arith_int.proofs.Ranges.{kept}
use Rattle.expand_operand.specs.Operands.{row_at}
use Rattle.expand_operand.proofs.Fronts.{stripped_front}
use Rattle.expand_operand.proofs.Summing.{stripped_short, sum_refuses, sum_gives}
use Rattle.expand_operand.proofs.sum_up.Goals as goal

pub evaluate_text-requires : goal.evaluate_text-requires
evaluate_text-requires c =
    let a = c.args in
    (stripped_short _ c.strip_marks-n.ensures (omega (arith, length-take-le (2 * a.units) a.work.now (omega arith))), c.requires.0)

pub returns-in_err-worked : goal.returns-in_err-worked
returns-in_err-worked c =
    let a = c.args in
    let p = err_from_is_err_and c.from_residual.result c.from_residual.ensures.1 in
    λ homes params. rw (p.1, p.2)
    (sum_refuses (lent_of a.extent.vars_room a.extent.shouts homes params) (mark_of a.row.mark) (row_at a.work.now a.units) false
    (stripped_front _ c.strip_marks-n.ensures) a.vars.now a.extent.vars_used c.evaluate_text.new.vars a.row.units a.next a.work.now
    c.in_err-worked.field-0.0 (c.in_err-worked.ensures homes params))

pub returns : goal.returns
returns c =
    let a = c.args in
    λ homes params.
    sum_gives (lent_of a.extent.vars_room a.extent.shouts homes params) (mark_of a.row.mark) (row_at a.work.now a.units) false
    (stripped_front _ c.strip_marks-n.ensures) a.vars.now a.extent.vars_used c.evaluate_text.new.vars a.row.units a.next c.give_number.new.area
    c.give_number.result (c.in_ok-worked.ensures homes params) (kept c.in_ok-worked.worked.value (search rules)) c.give_number.ensures.adds
