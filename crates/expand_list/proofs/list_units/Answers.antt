-- The text at the walk's place is the first of those ahead.
use Rattle.std.proofs.Common.{◌≡◌, None, Ok, ap, ◌∙◌, arith, rules}
use Rattle.expand_list.proofs.Counting.{summing_start, summing_end, summing_bad, next, summing_on}
use Rattle.expand_list.proofs.list_units.Goals as goal

pub loop-end-init : goal.loop-end-init
loop-end-init c = summing_start _ _ c.requires.0

pub overflow_sub-units : goal.overflow_sub-units
overflow_sub-units c = omega (arith, (next c.loop-end.invariant c.text_at.ensures (c.in-Ok-Some.is ∙ ap Ok c.in-Ok-Some.field-0-is)).low)

pub overflow_sub-units-in-Ok-Some : goal.overflow_sub-units-in-Ok-Some
overflow_sub-units-in-Ok-Some c =
    omega (arith, (next c.loop-end.invariant c.text_at.ensures (c.in-Ok-Some.is ∙ ap Ok c.in-Ok-Some.field-0-is)).low)

pub loop-end-smaller : goal.loop-end-smaller
loop-end-smaller c =
    let t = next c.loop-end.invariant c.text_at.ensures (c.in-Ok-Some.is ∙ ap Ok c.in-Ok-Some.field-0-is) in
    omega (arith, t.low, t.ahead.within)

pub loop-end-preserved : goal.loop-end-preserved
loop-end-preserved c =
    summing_on c.loop-end.invariant c.text_at.ensures (c.in-Ok-Some.is ∙ ap Ok c.in-Ok-Some.field-0-is) c.requires.1

pub returns-in_default : goal.returns-in_default
returns-in_default c =
    let n : c.in_default.field-0 ≡ None = search rules in
    summing_end c.loop-end.invariant c.text_at.ensures (c.in_default.is ∙ ap Ok n)

pub returns-in_default-2 : goal.returns-in_default-2
returns-in_default-2 c = summing_bad c.loop-end.invariant c.text_at.ensures c.in_default.is
