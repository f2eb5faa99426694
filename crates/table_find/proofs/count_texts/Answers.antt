-- `table_find::count_texts` meets its contract: the texts passed are counted.
use Rattle.std.proofs.Common.{◌≡◌, None, Ok, ap, ◌∙◌, arith, rules}
use Rattle.table_find.proofs.Numbering.{
  counting_start,
  counting_none,
  counting_bad,
  counting_all,
  counting_on,
  counting_bound,
  next_low,
  next_high,
}
use Rattle.table_find.proofs.count_texts.Goals as goal

pub loop-end-init : goal.loop-end-init
loop-end-init c = counting_start _ c.requires

pub overflow_add-texts : goal.overflow_add-texts
overflow_add-texts c =
    let w = c.loop-end.invariant in
    let e = c.in-Ok-Some.is ∙ ap Ok c.in-Ok-Some.field-0-is in
    omega (arith, next_low w c.text_at.ensures e, next_high w c.text_at.ensures e, counting_bound w)

pub loop-end-smaller : goal.loop-end-smaller
loop-end-smaller c =
    let w = c.loop-end.invariant in
    let e = c.in-Ok-Some.is ∙ ap Ok c.in-Ok-Some.field-0-is in
    omega (arith, next_low w c.text_at.ensures e, next_high w c.text_at.ensures e)

pub loop-end-preserved : goal.loop-end-preserved
loop-end-preserved c = counting_on c.loop-end.invariant c.text_at.ensures (c.in-Ok-Some.is ∙ ap Ok c.in-Ok-Some.field-0-is)

pub returns-in_default : goal.returns-in_default
returns-in_default c =
    let w = c.loop-end.invariant in
    let n : c.in_default.field-0 ≡ None = search rules in
    counting_all w (counting_none w c.text_at.ensures (c.in_default.is ∙ ap Ok n))

pub returns-in_default-2 : goal.returns-in_default-2
returns-in_default-2 c = absurd (counting_bad c.loop-end.invariant c.text_at.ensures c.in_default.is)
