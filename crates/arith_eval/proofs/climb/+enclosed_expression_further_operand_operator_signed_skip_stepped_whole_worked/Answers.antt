-- Each way through a member is a law of its own, and each call stands further on in the text.
use native.Mathlib.Omega.{arith}
use mathlib.Core.Path.{refl, sym, ap, ◌∙◌, subst}
use lib.IntN.{pos}
use mir.Facts.{sfits_lit}
use Rattle.std.proofs.lemmas.Result.{err_from_is_err_and}
use Rattle.stages.specs.Arith.{is_true}
use Rattle.table_store.proofs.Holding.{table_held}
use Rattle.arith_int.proofs.Ranges.{held, kept, bits_eq}
use Rattle.arith_eval.specs.Climbs.{lent_in, inside}
use Rattle.arith_eval.proofs.Operands.{token_shown, operand_refused, operand_none, operand_sign, operand_opens, operand_number, name_fails, name_says}
use Rattle.arith_eval.proofs.Operands.{no_sign, sign_deep, sign_fails, turn_fails, sign_says, enclosed_deep, enclosed_fails, unclosed, enclosed_says}
use Rattle.arith_eval.proofs.Climbing.{expression_fails, turn_refused, last_none, last_loose, right_fails, joined_fails, turn_says, going_next}
use Rattle.arith_eval.proofs.Reading.{skip_target, skip_fails, skip_refused, skip_query, skip_end_colon, skip_colon, skip_end, skip_lacks}
use Rattle.arith_eval.proofs.Reading.{step_refused, step_middle_fails, step_beyond_fails, step_beyond, step_end_colon, step_side_fails, step_closed}
use Rattle.arith_eval.proofs.Reading.{step_end, step_lacks}
use Rattle.arith_eval.proofs.Reading.{whole_skipped, whole_read}
use Rattle.arith_eval.proofs.Working.{working_start, work_target, work_fails, work_refused, work_middle, work_behind, work_last_fails, work_last}
use Rattle.arith_eval.proofs.Working.{lent_on, waiting_fits, stacked_within}
use mir.Syntax.{w64}
use mir.Val.{to_z, of_z}
use Rattle.table_store.specs.Holding.{Holds}
use Rattle.arith_eval.proofs.climb.+enclosed_expression_further_operand_operator_signed_skip_stepped_whole_worked.Goals as goal

pub enclosed-returns-then-scope-eq0 : goal.enclosed-returns-then-scope-eq0
enclosed-returns-then-scope-eq0 t c =
    let a = c.args in
    enclosed_deep (lent_in a.scope) a.text.now a.vars.now a.scope.vars_used a.scope.counts a.at a.scope.room c.if-scope-eq0.true

pub enclosed-returns-in_err-got : goal.enclosed-returns-in_err-got
enclosed-returns-in_err-got t c =
    let a = c.args in
    let p = err_from_is_err_and c.from_residual.result c.from_residual.ensures.1 in
    rw (p.1, p.2)
    (enclosed_fails (lent_in a.scope) a.text.now a.vars.now a.scope.vars_used a.scope.counts a.at a.scope.room _ c.if-scope-eq0.false c.in_err-got.ensures)

pub enclosed-returns-in_err-next : goal.enclosed-returns-in_err-next
enclosed-returns-in_err-next t c =
    let a = c.args in
    let p = err_from_is_err_and c.from_residual-in_err-next.result c.from_residual-in_err-next.ensures.1 in
    rw (p.1, p.2)
    (unclosed (lent_in a.scope) a.text.now a.vars.now a.scope.vars_used a.scope.counts a.at a.scope.room c.whole.new.vars c.in_ok-got.got.value
    c.in_ok-got.got.next c.in_ok-got.got.vars_used
    c.if-scope-eq0.false c.in_ok-got.ensures c.in_err-next.field-0.0 c.in_err-next.ensures)

pub enclosed-returns : goal.enclosed-returns
enclosed-returns t c =
    let a = c.args in
    rw (kept c.in_ok-got.got.value (omega arith))
    (enclosed_says (lent_in a.scope) a.text.now a.vars.now a.scope.vars_used a.scope.counts a.at a.scope.room c.whole.new.vars c.in_ok-got.got.value
    c.in_ok-got.got.next c.in_ok-got.got.vars_used
    c.if-scope-eq0.false c.in_ok-got.ensures c.in_ok-next.next c.in_ok-next.ensures)

pub expression-returns-in_err-got : goal.expression-returns-in_err-got
expression-returns-in_err-got t c =
    let a = c.args in
    let p = err_from_is_err_and c.from_residual.result c.from_residual.ensures.1 in
    rw (p.1, p.2)
    (expression_fails (lent_in a.scope) a.text.now a.vars.now a.scope.vars_used a.scope.counts a.at a.scope.room a.least c.requires.between _
    c.in_err-got.ensures)

pub further-loop-more-preserved : goal.further-loop-more-preserved
further-loop-more-preserved t c =
    let a = c.args in
    let m = c.in-Some.more in
    let l = c.loop-more in
    going_next (lent_in a.scope) a.text.now a.vars.now a.scope.vars_used a.scope.counts a.at a.scope.room a.least (to_z w64 (of_z w64 a.left))
    l.so_far.value l.so_far.next l.vars l.so_far.vars_used l.invariant c.operator.new.vars m.value m.next m.vars_used
    (rw (kept l.so_far.value (omega arith)) at (rw c.in-Some.is at c.in_ok-more.ensures))

pub operand-returns-in_err-token : goal.operand-returns-in_err-token
operand-returns-in_err-token t c =
    let a = c.args in
    let p = err_from_is_err_and c.from_residual.result c.from_residual.ensures.1 in
    rw (p.1, p.2)
    (operand_refused (lent_in a.scope) a.text.now a.vars.now a.scope.vars_used a.scope.counts a.at a.scope.room _ c.in_err-token.ensures)

pub operand-named-requires : goal.operand-named-requires
operand-named-requires t c =
    let a = c.args in
    table_held a.scope.vars_room a.vars.now a.scope.vars_used c.requires.holds

pub operand-returns-in_err-value-in-Name : goal.operand-returns-in_err-value-in-Name
operand-returns-in_err-value-in-Name t c =
    let a = c.args in
    let p = err_from_is_err_and c.from_residual-in_err-value-in-Name.result c.from_residual-in_err-value-in-Name.ensures.1 in
    rw (p.1, p.2)
    (name_fails (lent_in a.scope) a.text.now a.vars.now a.scope.vars_used a.scope.counts a.at a.scope.room c.requires.holds c.in-Name.from c.in-Name.to
    c.in_err-value-in-Name.field-0.0 (token_shown c.in_ok-token.ensures c.in-Name.is) a.scope.counts refl c.in_err-value-in-Name.ensures)

pub operand-returns-in-Number : goal.operand-returns-in-Number
operand-returns-in-Number t c =
    let a = c.args in
    rw (kept c.in-Number.value (omega arith))
    (operand_number (lent_in a.scope) a.text.now a.vars.now a.scope.vars_used a.scope.counts a.at a.scope.room c.requires.holds c.in-Number.value
    c.in-Number.next (token_shown c.in_ok-token.ensures c.in-Number.is))

pub operand-returns-in_ok-value-in-Name : goal.operand-returns-in_ok-value-in-Name
operand-returns-in_ok-value-in-Name t c =
    let a = c.args in
    rw (kept c.in_ok-value-in-Name.value (omega arith))
    (name_says (lent_in a.scope) a.text.now a.vars.now a.scope.vars_used a.scope.counts a.at a.scope.room c.requires.holds c.in-Name.from c.in-Name.to
    c.in_ok-value-in-Name.value
    (token_shown c.in_ok-token.ensures c.in-Name.is) a.scope.counts refl c.in_ok-value-in-Name.ensures)

pub operand-returns-in-Op : goal.operand-returns-in-Op
operand-returns-in-Op t c =
    let a = c.args in
    operand_sign (lent_in a.scope) a.text.now a.vars.now a.scope.vars_used a.scope.counts a.at a.scope.room c.in-Op.op c.in-Op.next _ c.signed.result
    (token_shown c.in_ok-token.ensures c.in-Op.is) c.signed.ensures

pub operand-returns-in-Opens : goal.operand-returns-in-Opens
operand-returns-in-Opens t c =
    let a = c.args in
    operand_opens (lent_in a.scope) a.text.now a.vars.now a.scope.vars_used a.scope.counts a.at a.scope.room c.in-Opens.next _ c.enclosed.result
    (token_shown c.in_ok-token.ensures c.in-Opens.is) c.enclosed.ensures

pub operand-returns-in_default : goal.operand-returns-in_default
operand-returns-in_default t c =
    let a = c.args in
    operand_none (lent_in a.scope) a.text.now a.vars.now a.scope.vars_used a.scope.counts a.at a.scope.room c.in_ok-token.token c.in_ok-token.ensures
    c.in_default.not-Number c.in_default.not-Name
    c.in_default.not-Op c.in_default.not-Opens

pub operator-returns-in_err-token : goal.operator-returns-in_err-token
operator-returns-in_err-token t c =
    let a = c.args in
    let p = err_from_is_err_and c.from_residual.result c.from_residual.ensures.1 in
    rw (p.1, p.2)
    (turn_refused (lent_in a.scope) a.text.now a.vars.now a.scope.vars_used a.scope.counts a.at a.scope.room a.least a.left a.vars.now
    c.in_err-token.field-0.0 c.in_err-token.ensures)

pub operator-returns-in_default : goal.operator-returns-in_default
operator-returns-in_default t c =
    let a = c.args in
    last_none (lent_in a.scope) a.text.now a.vars.now a.scope.vars_used a.scope.counts a.at a.scope.room a.least a.left c.requires.between
    c.in_ok-token.token c.in_ok-token.ensures c.in_default.not-Op

pub operator-returns-then-binds-least : goal.operator-returns-then-binds-least
operator-returns-then-binds-least t c =
    let a = c.args in
    last_loose (lent_in a.scope) a.text.now a.vars.now a.scope.vars_used a.scope.counts a.at a.scope.room a.least a.left c.in-Op.op c.in-Op.next
    (token_shown c.in_ok-token.ensures c.in-Op.is)
    (rw c.level-binds.ensures at c.if-binds-least.true)

pub operator-returns-in_err-right : goal.operator-returns-in_err-right
operator-returns-in_err-right t c =
    let a = c.args in
    let p = err_from_is_err_and c.from_residual-in_err-right.result c.from_residual-in_err-right.ensures.1 in
    rw (p.1, p.2)
    (right_fails (lent_in a.scope) a.text.now a.vars.now a.scope.vars_used a.scope.counts a.at a.scope.room a.least a.left c.in-Op.op c.in-Op.next
    (token_shown c.in_ok-token.ensures c.in-Op.is)
    (rw c.level-binds.ensures at c.if-binds-least.false) c.requires.between a.vars.now c.in_err-right.field-0.0 a.scope.counts _ refl refl
    (rw (c.level-binds.ensures, c.needed.ensures, held a.left c.ranges.left) at c.in_err-right.ensures))

pub operator-returns-in_err-value : goal.operator-returns-in_err-value
operator-returns-in_err-value t c =
    let a = c.args in
    let p = err_from_is_err_and c.from_residual-in_err-value.result c.from_residual-in_err-value.ensures.1 in
    rw (p.1, p.2)
    (joined_fails (lent_in a.scope) a.text.now a.vars.now a.scope.vars_used a.scope.counts a.at a.scope.room a.least a.left c.in-Op.op c.in-Op.next
    (token_shown c.in_ok-token.ensures c.in-Op.is)
    (rw c.level-binds.ensures at c.if-binds-least.false) c.requires.between c.expression.new.vars c.in_ok-right.right.value c.in_ok-right.right.next
    c.in_ok-right.right.vars_used
    a.scope.counts _ refl refl (rw (c.level-binds.ensures, c.needed.ensures, held a.left c.ranges.left) at c.in_ok-right.ensures) c.in_err-value.field-0.0
    (rw (held a.left c.ranges.left, kept c.in_ok-right.right.value (omega arith)) at c.in_err-value.ensures))

pub operator-returns : goal.operator-returns
operator-returns t c =
    let a = c.args in
    rw (kept c.in_ok-value.value (omega arith))
    (turn_says (lent_in a.scope) a.text.now a.vars.now a.scope.vars_used a.scope.counts a.at a.scope.room a.least a.left c.in-Op.op c.in-Op.next
    (token_shown c.in_ok-token.ensures c.in-Op.is)
    (rw c.level-binds.ensures at c.if-binds-least.false) c.requires.between c.expression.new.vars c.in_ok-right.right.value c.in_ok-right.right.next
    c.in_ok-right.right.vars_used
    a.scope.counts _ refl refl (rw (c.level-binds.ensures, c.needed.ensures, held a.left c.ranges.left) at c.in_ok-right.ensures) c.in_ok-value.value
    (rw (held a.left c.ranges.left, kept c.in_ok-right.right.value (omega arith)) at c.in_ok-value.ensures))

pub signed-returns-then-not-may : goal.signed-returns-then-not-may
signed-returns-then-not-may t c =
    let a = c.args in
    no_sign (lent_in a.scope) a.text.now a.vars.now a.scope.vars_used a.scope.counts a.at a.scope.room a.op
    (sym c.is_sign-may.ensures ∙ c.if-not-may.true)

pub signed-returns-then-scope-eq0 : goal.signed-returns-then-scope-eq0
signed-returns-then-scope-eq0 t c =
    let a = c.args in
    sign_deep (lent_in a.scope) a.text.now a.vars.now a.scope.vars_used a.scope.counts a.at a.scope.room a.op
    (sym c.is_sign-may.ensures ∙ c.if-not-may.false) c.if-scope-eq0.true

pub signed-returns-in_err-got : goal.signed-returns-in_err-got
signed-returns-in_err-got t c =
    let a = c.args in
    let p = err_from_is_err_and c.from_residual.result c.from_residual.ensures.1 in
    rw (p.1, p.2)
    (sign_fails (lent_in a.scope) a.text.now a.vars.now a.scope.vars_used a.scope.counts a.at a.scope.room a.op
    (sym c.is_sign-may.ensures ∙ c.if-not-may.false) c.if-scope-eq0.false _
    c.in_err-got.ensures)

pub signed-returns-in_err-value : goal.signed-returns-in_err-value
signed-returns-in_err-value t c =
    let a = c.args in
    let p = err_from_is_err_and c.from_residual-in_err-value.result c.from_residual-in_err-value.ensures.1 in
    rw (p.1, p.2)
    (turn_fails (lent_in a.scope) a.text.now a.vars.now a.scope.vars_used a.scope.counts a.at a.scope.room a.op
    (sym c.is_sign-may.ensures ∙ c.if-not-may.false) c.if-scope-eq0.false
    c.operand.new.vars c.in_ok-got.got.value c.in_ok-got.got.next c.in_ok-got.got.vars_used c.in_ok-got.ensures
    c.in_err-value.field-0.0 a.scope.counts refl (rw (kept c.in_ok-got.got.value (omega arith)) at c.in_err-value.ensures))

pub signed-returns : goal.signed-returns
signed-returns t c =
    let a = c.args in
    rw (kept c.in_ok-value.value (omega arith))
    (sign_says (lent_in a.scope) a.text.now a.vars.now a.scope.vars_used a.scope.counts a.at a.scope.room a.op
    (sym c.is_sign-may.ensures ∙ c.if-not-may.false) c.if-scope-eq0.false
    c.operand.new.vars c.in_ok-got.got.value c.in_ok-got.got.next c.in_ok-got.got.vars_used c.in_ok-got.ensures
    c.in_ok-value.value a.scope.counts refl (rw (kept c.in_ok-got.got.value (omega arith)) at c.in_ok-value.ensures))

pub skip-loop-target-preserved-in-Some : goal.skip-loop-target-preserved-in-Some
skip-loop-target-preserved-in-Some t c =
    let a = c.args in
    let l = c.loop-target in
    (skip_target a.text.now a.at a.scope.room a.colons a.begins l.awaited l.i l.first l.invariant.0 c.in-Some.ensures.0 c.in-Some.ensures.1, l.invariant.1)

pub skip-returns-in_err-got : goal.skip-returns-in_err-got
skip-returns-in_err-got t c =
    let a = c.args in
    let l = c.loop-target in
    let p = err_from_is_err_and c.from_residual.result c.from_residual.ensures.1 in
    rw (p.1, p.2)
    (skip_fails a.text.now a.at a.scope.room a.colons a.begins l.awaited l.i l.first l.invariant.0 c.in_default.ensures (lent_in a.scope) _ a.vars.now
    a.vars.now c.in_err-got.field-0.0 c.in_err-got.ensures)

pub skip-returns-in_err-mark : goal.skip-returns-in_err-mark
skip-returns-in_err-mark t c =
    let a = c.args in
    let l = c.loop-target in
    let p = err_from_is_err_and c.from_residual-in_err-mark.result c.from_residual-in_err-mark.ensures.1 in
    rw (p.1, p.2)
    (skip_refused a.text.now a.at a.scope.room a.colons a.begins l.awaited l.i l.first l.invariant.0 c.in_default.ensures c.in_ok-got.ensures.0
    a.vars.now a.vars.now c.in_err-mark.field-0.0 c.in_err-mark.ensures)

pub skip-loop-target-preserved-in-Query : goal.skip-loop-target-preserved-in-Query
skip-loop-target-preserved-in-Query t c =
    let a = c.args in
    let l = c.loop-target in (
      skip_query a.text.now a.at a.scope.room a.colons a.begins l.awaited l.i l.first l.invariant.0 c.in_default.ensures c.in_ok-got.ensures.0 _
          (rw c.in-Query.is at c.in_ok-mark.ensures),
      (c.in_ok-got.ensures.1.bytes refl ∙ l.invariant.1),
    )

pub skip-returns-then-awaited-eq0 : goal.skip-returns-then-awaited-eq0
skip-returns-then-awaited-eq0 t c =
    let a = c.args in
    let l = c.loop-target in
    skip_end_colon a.text.now a.at a.scope.room a.colons a.begins l.awaited l.i l.first l.invariant.0 c.in_default.ensures c.in_ok-got.ensures.0
    a.vars.now _ (c.in_ok-got.ensures.1.bytes refl ∙ l.invariant.1) _ c.if-awaited-eq0.true
    (rw c.in-Colon.is at c.in_ok-mark.ensures)

pub skip-loop-target-preserved : goal.skip-loop-target-preserved
skip-loop-target-preserved t c =
    let a = c.args in
    let l = c.loop-target in (
      skip_colon a.text.now a.at a.scope.room a.colons a.begins l.awaited l.i l.first l.invariant.0 c.in_default.ensures c.in_ok-got.ensures.0 _
          c.if-awaited-eq0.false (rw c.in-Colon.is at c.in_ok-mark.ensures),
      (c.in_ok-got.ensures.1.bytes refl ∙ l.invariant.1),
    )

pub skip-returns-then-awaited-eq0-2 : goal.skip-returns-then-awaited-eq0-2
skip-returns-then-awaited-eq0-2 t c =
    let a = c.args in
    let l = c.loop-target in
    skip_end a.text.now a.at a.scope.room a.colons a.begins l.awaited l.i l.first l.invariant.0 c.in_default.ensures c.in_ok-got.ensures.0 a.vars.now _
    (c.in_ok-got.ensures.1.bytes refl ∙ l.invariant.1) c.if-awaited-eq0-2.true
    (rw c.in-Other.is at c.in_ok-mark.ensures)

pub skip-returns-in-Other : goal.skip-returns-in-Other
skip-returns-in-Other t c =
    let a = c.args in
    let l = c.loop-target in
    skip_lacks a.text.now a.at a.scope.room a.colons a.begins l.awaited l.i l.first l.invariant.0 c.in_default.ensures c.in_ok-got.ensures.0 a.vars.now
    a.vars.now c.if-awaited-eq0-2.false (rw c.in-Other.is at c.in_ok-mark.ensures)

pub stepped-returns-in_err-mark : goal.stepped-returns-in_err-mark
stepped-returns-in_err-mark t c =
    let a = c.args in
    let p = err_from_is_err_and c.from_residual.result c.from_residual.ensures.1 in
    rw (p.1, p.2)
    (step_refused a.text.now a.at a.scope.room a.value a.colons a.vars.now a.vars.now c.in_err-mark.field-0.0 c.in_err-mark.ensures)

pub stepped-returns-in_err-side-in-Query : goal.stepped-returns-in_err-side-in-Query
stepped-returns-in_err-side-in-Query t c =
    let a = c.args in
    let p = err_from_is_err_and c.from_residual-in_err-side-in-Query.result c.from_residual-in_err-side-in-Query.ensures.1 in
    rw (p.1, p.2)
    (step_middle_fails a.text.now a.at a.scope.room a.value a.colons a.vars.now a.vars.now _ (rw c.in-Query.is at c.in_ok-mark.ensures)
    c.in_err-side-in-Query.field-0.0
    c.in_err-side-in-Query.ensures)

pub stepped-returns-in_err-behind-in-Query : goal.stepped-returns-in_err-behind-in-Query
stepped-returns-in_err-behind-in-Query t c =
    let a = c.args in
    let p = err_from_is_err_and c.from_residual-in_err-behind-in-Query.result c.from_residual-in_err-behind-in-Query.ensures.1 in
    rw (p.1, p.2)
    (step_beyond_fails a.text.now a.at a.scope.room a.value a.colons a.vars.now _ _ (rw c.in-Query.is at c.in_ok-mark.ensures) _ c.in_ok-side-in-Query.ensures
    c.in_err-behind-in-Query.field-0.0 c.in_err-behind-in-Query.ensures)

pub stepped-returns-in_ok-behind-in-Query : goal.stepped-returns-in_ok-behind-in-Query
stepped-returns-in_ok-behind-in-Query t c =
    let a = c.args in
    step_beyond a.text.now a.at a.scope.room a.value a.colons a.vars.now _ _ (rw c.in-Query.is at c.in_ok-mark.ensures) _ c.in_ok-side-in-Query.ensures
    (ap is_true (bits_eq a.value (pos 0) c.ranges.value (sfits_lit tt) c.if-value-ne0.false)) _ c.in_ok-behind-in-Query.ensures

pub stepped-returns-then-colons-eq0 : goal.stepped-returns-then-colons-eq0
stepped-returns-then-colons-eq0 t c =
    let a = c.args in
    step_end_colon a.text.now a.at a.scope.room a.value a.colons a.vars.now a.vars.now _ (rw c.in-Colon.is at c.in_ok-mark.ensures) refl c.if-colons-eq0.true

pub stepped-returns-in_err-last-in-Colon : goal.stepped-returns-in_err-last-in-Colon
stepped-returns-in_err-last-in-Colon t c =
    let a = c.args in
    let p = err_from_is_err_and c.from_residual-in_err-last-in-Colon.result c.from_residual-in_err-last-in-Colon.ensures.1 in
    rw (p.1, p.2)
    (step_side_fails a.text.now a.at a.scope.room a.value a.colons a.vars.now a.vars.now _ (rw c.in-Colon.is at c.in_ok-mark.ensures)
    c.if-colons-eq0.false c.in_err-last-in-Colon.field-0.0
    c.in_err-last-in-Colon.ensures)

pub stepped-returns-in_ok-last-in-Colon : goal.stepped-returns-in_ok-last-in-Colon
stepped-returns-in_ok-last-in-Colon t c =
    let a = c.args in
    step_closed a.text.now a.at a.scope.room a.value a.colons a.vars.now _ _ (rw c.in-Colon.is at c.in_ok-mark.ensures) c.if-colons-eq0.false _
    c.in_ok-last-in-Colon.ensures

pub stepped-returns-then-colons-eq0-2 : goal.stepped-returns-then-colons-eq0-2
stepped-returns-then-colons-eq0-2 t c =
    let a = c.args in
    step_end a.text.now a.at a.scope.room a.value a.colons a.vars.now a.vars.now refl c.requires.ready.start c.if-colons-eq0-2.true
    (rw c.in-Other.is at c.in_ok-mark.ensures)

pub stepped-returns-else-colons-eq0-2 : goal.stepped-returns-else-colons-eq0-2
stepped-returns-else-colons-eq0-2 t c =
    let a = c.args in
    step_lacks a.text.now a.at a.scope.room a.value a.colons a.vars.now a.vars.now c.if-colons-eq0-2.false (rw c.in-Other.is at c.in_ok-mark.ensures)

pub whole-returns-in_err-next : goal.whole-returns-in_err-next
whole-returns-in_err-next t c =
    let a = c.args in
    let p = err_from_is_err_and c.from_residual.result c.from_residual.ensures.1 in
    rw (p.1, p.2)
    (rw c.if-scope.false (whole_skipped (lent_in a.scope) a.text.now a.at a.scope.room a.vars.now a.scope.vars_used a.vars.now c.in_err-next.field-0.0
    c.in_err-next.ensures))

pub whole-returns : goal.whole-returns
whole-returns t c =
    let a = c.args in
    rw c.if-scope.false (whole_read (lent_in a.scope) a.text.now a.at a.scope.room a.vars.now a.scope.vars_used _ c.requires.holds _ c.in_ok-next.ensures)

pub worked-loop-target-init : goal.worked-loop-target-init
worked-loop-target-init t c =
    let a = c.args in
    (working_start (lent_in a.scope) a.text.now (inside a.vars.now a.scope.vars_used) a.at a.scope.room a.places.now c.requires.start, c.requires.holds)

pub worked-loop-target-preserved-in-Some : goal.worked-loop-target-preserved-in-Some
worked-loop-target-preserved-in-Some t c =
    let a = c.args in
    let l = c.loop-target in
    let e = c.in-Some.ensures in
    let x = e.1.names.behind.onward in
    let y = e.1.sets.behind.onward in
    let w = e.1.sets.behind.within in
    let d = l.invariant.0.deep in
    let p = c.requires.deep in (
      work_target (lent_in a.scope) a.text.now (inside a.vars.now a.scope.vars_used) a.at a.scope.room l.awaited l.i l.first l.waiting l.places _
          l.invariant.0 e.0 e.1 (omega (arith, l.auto.places)),
      l.invariant.1,
    )

pub worked-returns-in_err-got : goal.worked-returns-in_err-got
worked-returns-in_err-got t c =
    let a = c.args in
    let l = c.loop-target in
    let p = err_from_is_err_and c.from_residual.result c.from_residual.ensures.1 in
    rw (p.1, p.2)
    (work_fails (lent_in a.scope) a.text.now (inside a.vars.now a.scope.vars_used) a.at a.scope.room l.awaited l.i l.first l.waiting l.places _
    l.invariant.0 c.in_default.ensures _ c.in_err-got.ensures)

pub worked-returns-in_err-step : goal.worked-returns-in_err-step
worked-returns-in_err-step t c =
    let a = c.args in
    let l = c.loop-target in
    let p = err_from_is_err_and c.from_residual-in_err-step.result c.from_residual-in_err-step.ensures.1 in
    rw (p.1, p.2)
    (work_refused (lent_in a.scope) a.text.now (inside a.vars.now a.scope.vars_used) a.at a.scope.room l.awaited l.i l.first l.waiting l.places _
    l.invariant.0 c.in_default.ensures c.in_ok-got.got.value c.in_ok-got.got.next _ c.in_ok-got.ensures.0
    c.expression.new.vars c.expression.new.vars c.in_err-step.field-0.0 c.in_err-step.ensures)

pub worked-stored_all-requires : goal.worked-stored_all-requires
worked-stored_all-requires t c =
    let a = c.args in
    let l = c.loop-target in
    let o = lent_on c.requires l.invariant.0 l.auto.places c.expression.new.places c.expression.auto.places in
    let k = lent_on c.requires o.0 o.1 c.stepped.new.places c.stepped.auto.places in
    let h = rw c.in-Last.is at c.in_ok-step.ensures in
    record {
      few = waiting_fits c.requires l.i l.waiting k.0.deep k.0.within _ k.1;
      placed = stacked_within a.text.now _ l.waiting k.0.names k.0.stacked;
      holds = subst (λ x. Holds a.scope.vars_room x c.in_ok-got.got.vars_used) (sym h.1) c.in_ok-got.ensures.1.holds;
    }

pub worked-returns-in_err-all-in-Last : goal.worked-returns-in_err-all-in-Last
worked-returns-in_err-all-in-Last t c =
    let a = c.args in
    let l = c.loop-target in
    let o = lent_on c.requires l.invariant.0 l.auto.places c.expression.new.places c.expression.auto.places in
    let k = lent_on c.requires o.0 o.1 c.stepped.new.places c.stepped.auto.places in
    let h = rw c.in-Last.is at c.in_ok-step.ensures in
    let p = err_from_is_err_and c.from_residual-in_err-all-in-Last.result c.from_residual-in_err-all-in-Last.ensures.1 in
    rw (p.1, p.2)
    (work_last_fails (lent_in a.scope) a.text.now a.vars.now a.scope.vars_used a.at a.scope.room l.awaited l.i l.first l.waiting _ _ k.0
    c.in_default.ensures c.in_ok-got.got.value c.in_ok-got.got.next c.expression.new.vars
    c.in_ok-got.got.vars_used c.in_ok-got.ensures.0 c.in-Last.next h.0 c.stored_all.new.vars c.in_err-all-in-Last.field-0.0
    (rw (h.1, kept c.in_ok-got.got.value (omega arith)) at c.in_err-all-in-Last.ensures))

pub worked-returns-in-Last : goal.worked-returns-in-Last
worked-returns-in-Last t c =
    let a = c.args in
    let l = c.loop-target in
    let o = lent_on c.requires l.invariant.0 l.auto.places c.expression.new.places c.expression.auto.places in
    let k = lent_on c.requires o.0 o.1 c.stepped.new.places c.stepped.auto.places in
    let h = rw c.in-Last.is at c.in_ok-step.ensures in
    rw (kept c.in_ok-all-in-Last.all.value (omega arith))
    (work_last (lent_in a.scope) a.text.now a.vars.now a.scope.vars_used a.at a.scope.room l.awaited l.i l.first l.waiting _ _ k.0 c.in_default.ensures
    c.in_ok-got.got.value c.in_ok-got.got.next c.expression.new.vars c.in_ok-got.got.vars_used
    c.in_ok-got.ensures.0 c.in-Last.next h.0 c.stored_all.new.vars c.in_ok-all-in-Last.all
    (rw (h.1, kept c.in_ok-got.got.value (omega arith)) at c.in_ok-all-in-Last.ensures))

pub worked-loop-target-preserved-in-Middle : goal.worked-loop-target-preserved-in-Middle
worked-loop-target-preserved-in-Middle t c =
    let a = c.args in
    let l = c.loop-target in
    let o = lent_on c.requires l.invariant.0 l.auto.places c.expression.new.places c.expression.auto.places in
    let k = lent_on c.requires o.0 o.1 c.stepped.new.places c.stepped.auto.places in
    let h = (rw (kept c.in_ok-got.got.value (omega arith)) at (rw c.in-Middle.is at c.in_ok-step.ensures)) in
    rw h.2 (
      work_middle (lent_in a.scope) a.text.now (inside a.vars.now a.scope.vars_used) a.at a.scope.room l.awaited l.i l.first l.waiting _ _ k.0
          c.in_default.ensures c.in_ok-got.got.value c.in_ok-got.got.next _ c.in_ok-got.ensures.0 _ h.0 h.1,
      c.in_ok-got.ensures.1.holds,
    )

pub worked-loop-target-preserved : goal.worked-loop-target-preserved
worked-loop-target-preserved t c =
    let a = c.args in
    let l = c.loop-target in
    let o = lent_on c.requires l.invariant.0 l.auto.places c.expression.new.places c.expression.auto.places in
    let k = lent_on c.requires o.0 o.1 c.stepped.new.places c.stepped.auto.places in
    let h = (rw (kept c.in_ok-got.got.value (omega arith)) at (rw c.in-Behind.is at c.in_ok-step.ensures)) in
    rw h.2 (
      work_behind (lent_in a.scope) a.text.now (inside a.vars.now a.scope.vars_used) a.at a.scope.room l.awaited l.i l.first l.waiting _ _ k.0
          c.in_default.ensures c.in_ok-got.got.value c.in_ok-got.got.next _ c.in_ok-got.ensures.0 _ h.1 h.0,
      c.in_ok-got.ensures.1.holds,
    )
