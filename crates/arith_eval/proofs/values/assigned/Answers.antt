-- The name that stands there is read if it must be, and stored.
use native.Mathlib.Omega.{arith}
use Rattle.std.proofs.lemmas.Result.{err_from_is_err_and}
use Rattle.arith_int.proofs.Ranges.{held, kept}
use Rattle.table_store.proofs.Holding.{table_held}
use Rattle.arith_eval.specs.Climbs.{alone, inside}
use Rattle.arith_eval.proofs.Storing.{no_target, assign_refused, assign_full, assign_puts}
use Rattle.arith_eval.proofs.values.assigned.Goals as goal

pub returns-in_default : goal.returns-in_default
returns-in_default c = λ g s. absurd (no_target c.args.text.now c.args.place g c.in_default.ensures s)

pub updated-requires : goal.updated-requires
updated-requires c = table_held c.args.vars_room c.args.vars.now c.args.vars_used c.requires.1

pub returns-in_err-z : goal.returns-in_err-z
returns-in_err-z c =
    let a = c.args in
    let p = err_from_is_err_and c.from_residual.result c.from_residual.ensures.1 in
    rw (p.1, p.2)
    (assign_refused (alone a.vars_room a.shouts) a.text.now a.place a.value (inside a.vars.now a.vars_used) a.vars.now c.in-Some.ensures.1 _
    (rw (held a.value c.ranges.value) at c.in_err-z.ensures))

pub returns-in_err-used : goal.returns-in_err-used
returns-in_err-used c =
    let a = c.args in
    let p = err_from_is_err_and c.from_residual-in_err-used.result c.from_residual-in_err-used.ensures.1 in
    rw (p.1, p.2)
    (assign_full (alone a.vars_room a.shouts) a.text.now a.place a.value (inside a.vars.now a.vars_used) a.vars.now c.in-Some.ensures.1 c.in_ok-z.z
    (rw (held a.value c.ranges.value) at c.in_ok-z.ensures) c.in_err-used.field-0.0 (rw (kept c.in_ok-z.z (omega arith)) at c.in_err-used.ensures))

pub returns : goal.returns
returns c =
    let a = c.args in
    rw (kept c.in_ok-z.z (omega arith))
    (assign_puts (alone a.vars_room a.shouts) a.text.now a.place a.value (inside a.vars.now a.vars_used) _ c.in-Some.ensures.1 c.in_ok-z.z
    (rw (held a.value c.ranges.value) at c.in_ok-z.ensures) _ (rw (kept c.in_ok-z.z (omega arith)) at c.in_ok-used.ensures))
