-- A whole expression, and nothing behind it.
use native.Mathlib.Omega.{arith}
use Rattle.std.proofs.lemmas.Result.{err_from_is_err_and}
use Rattle.arith_int.proofs.Ranges.{kept}
use Rattle.arith_eval.specs.Climbs.{alone}
use Rattle.arith_eval.proofs.Texts.{once_fails, once_ends, once_says}
use Rattle.arith_eval.proofs.once.Goals as goal

pub returns-in_err-got : goal.returns-in_err-got
returns-in_err-got c =
    let a = c.args in
    let p = err_from_is_err_and c.from_residual.result c.from_residual.ensures.1 in
    rw (p.1, p.2) (once_fails (alone a.vars_room a.shouts) a.text.now a.vars.now a.vars_used a.counts _ c.in_err-got.ensures)

pub returns-in_err-ended : goal.returns-in_err-ended
returns-in_err-ended c =
    let a = c.args in
    let p = err_from_is_err_and c.from_residual-in_err-ended.result c.from_residual-in_err-ended.ensures.1 in
    rw (p.1, p.2) (once_ends (alone a.vars_room a.shouts) a.text.now a.vars.now a.vars_used a.counts c.whole.new.vars c.in_ok-got.got.value
    c.in_ok-got.got.next
    c.in_ok-got.got.vars_used c.in_ok-got.ensures
    c.in_err-ended.field-0.0 c.in_err-ended.ensures)

pub returns : goal.returns
returns c =
    let a = c.args in
    rw (kept c.in_ok-got.got.value (omega arith))
    (once_says (alone a.vars_room a.shouts) a.text.now a.vars.now a.vars_used a.counts c.whole.new.vars c.in_ok-got.got.value c.in_ok-got.got.next
    c.in_ok-got.got.vars_used c.in_ok-got.ensures
    c.in_ok-ended.field-0 c.in_ok-ended.ensures)
