-- `quote::blanked_length` meets its contract: the fields passed are counted.
use Rattle.std.proofs.Common.{◌≡◌, None, Ok, ap, ◌∙◌, arith, rules}
use Rattle.quote.proofs.Walks.{counts_end, counts_bad, counts_text, counts_more}
use Rattle.quote.proofs.blanked_length.Goals as goal

pub slice_bounds-field_length-count : goal.slice_bounds-field_length-count
slice_bounds-field_length-count c =
    let f = counts_text c.loop-end.invariant c.text_at.ensures (c.in-Ok-Some.is ∙ ap Ok c.in-Ok-Some.field-0-is) in
    f.low

pub slice_bounds-field_length-start : goal.slice_bounds-field_length-start
slice_bounds-field_length-start c =
    let f = counts_text c.loop-end.invariant c.text_at.ensures (c.in-Ok-Some.is ∙ ap Ok c.in-Ok-Some.field-0-is) in
    f.low

pub slice_bounds-field_length-end : goal.slice_bounds-field_length-end
slice_bounds-field_length-end c =
    let f = counts_text c.loop-end.invariant c.text_at.ensures (c.in-Ok-Some.is ∙ ap Ok c.in-Ok-Some.field-0-is) in
    f.high

pub overflow_add-n : goal.overflow_add-n
overflow_add-n c =
    let f = counts_text c.loop-end.invariant c.text_at.ensures (c.in-Ok-Some.is ∙ ap Ok c.in-Ok-Some.field-0-is) in
    omega (arith, c.field_length.ensures, f.small)

pub overflow_add-n-in-Ok-Some : goal.overflow_add-n-in-Ok-Some
overflow_add-n-in-Ok-Some c =
    let m = counts_more c.loop-end.invariant c.text_at.ensures _ (c.in-Ok-Some.is ∙ ap Ok c.in-Ok-Some.field-0-is) c.field_length.ensures c.requires in
    omega (arith, m.bound)

pub loop-end-smaller : goal.loop-end-smaller
loop-end-smaller c =
    let f = counts_text c.loop-end.invariant c.text_at.ensures (c.in-Ok-Some.is ∙ ap Ok c.in-Ok-Some.field-0-is) in
    omega (arith, f.low, f.high)

pub loop-end-preserved : goal.loop-end-preserved
loop-end-preserved c =
    counts_more c.loop-end.invariant c.text_at.ensures _ (c.in-Ok-Some.is ∙ ap Ok c.in-Ok-Some.field-0-is) c.field_length.ensures c.requires

pub returns-in_default : goal.returns-in_default
returns-in_default c =
    let n : c.in_default.field-0 ≡ None = search rules in
    counts_end c.loop-end.invariant c.text_at.ensures (c.in_default.is ∙ ap Ok n)

pub returns-in_default-2 : goal.returns-in_default-2
returns-in_default-2 c = counts_bad c.loop-end.invariant c.text_at.ensures c.in_default.is
