-- `table_find::find_text` meets its contract: the texts passed are counted, and none of them has the number.
use Rattle.std.proofs.Common.{◌≡◌, None, Ok, ap, ◌∙◌, arith, rules}
use Rattle.table_find.proofs.Numbering.{
  seeking_start,
  seeking_none,
  seeking_bad,
  seeking_found,
  seeking_on,
  counting_bound,
  next_low,
  next_high,
}
use Rattle.table_find.proofs.find_text.Goals as goal

pub loop-end-init : goal.loop-end-init
loop-end-init c = seeking_start _ _ c.requires

pub overflow_add-count : goal.overflow_add-count
overflow_add-count c =
    let w = c.loop-end.invariant.walk in
    let e = c.in-Ok-Some.is ∙ ap Ok c.in-Ok-Some.field-0-is in
    omega (arith, next_low w c.text_at.ensures e, next_high w c.text_at.ensures e, counting_bound w)

pub returns-then-count-number : goal.returns-then-count-number
returns-then-count-number c =
    seeking_found c.loop-end.invariant c.text_at.ensures (c.in-Ok-Some.is ∙ ap Ok c.in-Ok-Some.field-0-is) c.if-count-number.true

pub loop-end-smaller : goal.loop-end-smaller
loop-end-smaller c =
    let w = c.loop-end.invariant.walk in
    let e = c.in-Ok-Some.is ∙ ap Ok c.in-Ok-Some.field-0-is in
    omega (arith, next_low w c.text_at.ensures e, next_high w c.text_at.ensures e)

pub loop-end-preserved : goal.loop-end-preserved
loop-end-preserved c =
    seeking_on c.loop-end.invariant c.text_at.ensures (c.in-Ok-Some.is ∙ ap Ok c.in-Ok-Some.field-0-is) c.if-count-number.false

pub returns-in_default : goal.returns-in_default
returns-in_default c =
    let n : c.in_default.field-0 ≡ None = search rules in
    seeking_none c.loop-end.invariant c.text_at.ensures (c.in_default.is ∙ ap Ok n)

pub returns-in_default-2 : goal.returns-in_default-2
returns-in_default-2 c = seeking_bad c.loop-end.invariant c.text_at.ensures c.in_default.is
