-- The loop plods on over operators whose right sides are constants and what binds tighter behind them.
use native.Mathlib.Omega.{arith}
use mathlib.Core.Path.{sym, ◌∙◌}
use mir.Syntax.{w64}
use mir.Val.{to_z, of_z}
use Rattle.arith_int.proofs.Ranges.{held, kept}
use Rattle.arith_eval.proofs.Plainly.{plods_stop, plods_loose, plods_next, given_is}
use Rattle.arith_eval.proofs.plain.+plain_from.Goals as goal

pub returns-in-Stop : goal.returns-in-Stop
returns-in-Stop t c =
    let a = c.args in
    rw (held a.left c.ranges.left) at
    (plods_stop a.text.now a.at a.least (to_z w64 (of_z w64 a.left)) c.loop-sign.invariant c.requires.1 (rw c.in-Stop.is at c.in_ok-sign.ensures))

pub returns-then-binds-least : goal.returns-then-binds-least
returns-then-binds-least t c =
    let a = c.args in
    rw (held a.left c.ranges.left) at
    (plods_loose a.text.now a.at a.least (to_z w64 (of_z w64 a.left)) c.loop-sign.invariant (rw c.in-Op.is at c.in_ok-sign.ensures)
    (rw c.level-binds.ensures at c.if-binds-least.true))

pub loop-sign-preserved : goal.loop-sign-preserved
loop-sign-preserved t c =
    let a = c.args in
    let first = c.in_ok-first-in-Op in
    let right = c.in_ok-right-in-Op in
    rw (kept c.in_ok-value-in-Op.value (omega arith))
    (plods_next a.text.now a.at a.least (to_z w64 (of_z w64 a.left)) c.loop-sign.invariant (rw c.in-Op.is at c.in_ok-sign.ensures) c.requires.1
    (rw c.level-binds.ensures at c.if-binds-least.false) first.ensures
    (rw (c.level-binds.ensures, kept first.first.value (omega arith)) at right.ensures)
    (sym (rw (kept right.right.value (omega arith)) at c.operate.ensures) ∙ given_is _ _ c.in_ok-value-in-Op.ensures.value))
