-- Each field that is taken leaves those ahead of the next place.
use mathlib.Core.Path.{sym, ap, ◌∙◌}
use native.Mathlib.Omega.{arith}
use Rattle.std.proofs.Common.{Err}
use Rattle.split_row.proofs.Runs.{run_fits, run_on}
use Rattle.split_row.proofs.Walking.{walk_start, walk_full, walk_fits, took, walk_class, walk_falls, walk_on, walk_over}
use Rattle.split_row.proofs.put_fields.Goals as goal

pub loop-row-init : goal.loop-row-init
loop-row-init c = walk_start _ _ _ _ _ _ c.requires.used_in_bounds.0 c.skip_white-at.ensures

pub loop-row-2-smaller : goal.loop-row-2-smaller
loop-row-2-smaller c =
    let h = run_fits _ c.loop-row-2.invariant (sym c.goes_on.ensures ∙ c.if-not-goes_on.false) in
    omega (arith, h)

pub loop-row-2-preserved : goal.loop-row-2-preserved
loop-row-2-preserved c = run_on _ c.loop-row-2.invariant (sym c.goes_on.ensures ∙ c.if-not-goes_on.false)

pub returns-in-Err-BadClass : goal.returns-in-Err-BadClass
returns-in-Err-BadClass c =
    walk_class
    (took c.loop-row.invariant c.loop-row-test.true c.loop-row-2.invariant c.goes_on.ensures c.if-not-goes_on.true c.behind_field-next.ensures
    c.put_field.ensures.puts.says c.put_field.auto.field c.put_field.auto.out)
    (c.in-Err-BadClass.is ∙ ap Err c.in-Err-BadClass.field-0-is)

pub loop-row-smaller-in-Ok : goal.loop-row-smaller-in-Ok
loop-row-smaller-in-Ok c =
    walk_falls
    (took c.loop-row.invariant c.loop-row-test.true c.loop-row-2.invariant c.goes_on.ensures c.if-not-goes_on.true c.behind_field-next.ensures
    c.put_field.ensures.puts.says c.put_field.auto.field c.put_field.auto.out)

pub loop-row-preserved-in-Ok : goal.loop-row-preserved-in-Ok
loop-row-preserved-in-Ok c =
    walk_on
    (took c.loop-row.invariant c.loop-row-test.true c.loop-row-2.invariant c.goes_on.ensures c.if-not-goes_on.true c.behind_field-next.ensures
    c.put_field.ensures.puts.says c.put_field.auto.field c.put_field.auto.out)
    c.in-Ok.is

pub loop-row-smaller : goal.loop-row-smaller
loop-row-smaller c =
    walk_falls
    (took c.loop-row.invariant c.loop-row-test.true c.loop-row-2.invariant c.goes_on.ensures c.if-not-goes_on.true c.behind_field-next.ensures
    c.put_field.ensures.puts.says c.put_field.auto.field c.put_field.auto.out)

pub loop-row-preserved : goal.loop-row-preserved
loop-row-preserved c =
    walk_over
    (took c.loop-row.invariant c.loop-row-test.true c.loop-row-2.invariant c.goes_on.ensures c.if-not-goes_on.true c.behind_field-next.ensures
    c.put_field.ensures.puts.says c.put_field.auto.field c.put_field.auto.out)
    (c.in-Err-NoRoom.is ∙ ap Err c.in-Err-NoRoom.field-0-is)

pub returns-then-full : goal.returns-then-full
returns-then-full c = walk_full c.loop-row.invariant c.loop-row-test.false c.if-full.true

pub returns-else-full : goal.returns-else-full
returns-else-full c = walk_fits c.loop-row.invariant c.loop-row-test.false c.if-full.false
