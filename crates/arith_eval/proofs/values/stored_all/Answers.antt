-- The names are taken from the last place on, which is that of the innermost.
use native.Mathlib.Omega.{arith}
use mir.Syntax.{w64}
use mir.Val.{to_z, of_z}
use Rattle.std.proofs.lemmas.Result.{err_from_is_err_and}
use Rattle.arith_int.proofs.Ranges.{held, kept}
use Rattle.arith_eval.specs.Climbs.{lent_in}
use Rattle.arith_eval.proofs.Storing.{unwind_refused, unwind_next, unwind_last}
use Rattle.arith_eval.proofs.values.stored_all.Goals as goal

pub returns-in_err-all : goal.returns-in_err-all
returns-in_err-all c =
    let a = c.args in
    let p = err_from_is_err_and c.from_residual.result c.from_residual.ensures.1 in
    rw (p.1, p.2) (rw (held a.value c.ranges.value) at
    (unwind_refused (lent_in a.scope) a.text.now a.places.now a.waiting (to_z w64 (of_z w64 a.value)) a.vars.now a.scope.vars_used c.loop-i.i
    c.loop-i.all.value c.loop-i.vars c.loop-i.all.vars_used c.loop-i.invariant c.assigned.new.vars
    c.in_err-all.field-0.0 (omega arith) (rw (kept c.loop-i.all.value (omega arith)) at c.in_err-all.ensures)))

pub loop-i-preserved : goal.loop-i-preserved
loop-i-preserved c =
    let a = c.args in
    (unwind_next (lent_in a.scope) a.text.now a.places.now a.waiting (to_z w64 (of_z w64 a.value)) a.vars.now a.scope.vars_used c.loop-i.i
    c.loop-i.all.value c.loop-i.vars c.loop-i.all.vars_used c.loop-i.invariant c.assigned.new.vars
    c.in_ok-all.all (omega arith) (rw (kept c.loop-i.all.value (omega arith)) at c.in_ok-all.ensures))

pub returns : goal.returns
returns c =
    let a = c.args in
    rw (held a.value c.ranges.value) at
    (unwind_last (lent_in a.scope) a.text.now a.places.now a.waiting (to_z w64 (of_z w64 a.value)) a.vars.now a.scope.vars_used c.loop-i.i
    c.loop-i.all.value c.loop-i.vars c.loop-i.all.vars_used c.loop-i.invariant c.loop-i-test.false)
