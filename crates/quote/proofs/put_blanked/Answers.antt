-- `quote::put_blanked` meets its contract: the fields passed stand in the buffer, each behind its blank, and those ahead are left.
use Rattle.std.proofs.Common.{◌≡◌, None, Ok, ap, ◌∙◌, arith, rules}
use Rattle.text.proofs.Filling.{fill_room, fill_length}
use Rattle.table.proofs.Writing.{writing_end, writing_bad, writing_text}
use Rattle.quote.proofs.Walks.{fills_starts, blanked_none, fills_blank, fills_fits, fills_next, fills_more}
use Rattle.quote.proofs.put_blanked.Goals as goal

pub loop-end-init : goal.loop-end-init
loop-end-init c = fills_starts c.args.out.now c.requires.rest c.requires.from_in_bounds

pub bounds-out-used : goal.bounds-out-used
bounds-out-used c =
    let f = writing_text c.loop-end.invariant c.text_at.ensures (c.in-Ok-Some.is ∙ ap Ok c.in-Ok-Some.field-0-is) in
    omega (arith, fill_room (fills_blank f), fill_length f.walk.filling)

pub slice_bounds-put_field-count : goal.slice_bounds-put_field-count
slice_bounds-put_field-count c =
    let f = writing_text c.loop-end.invariant c.text_at.ensures (c.in-Ok-Some.is ∙ ap Ok c.in-Ok-Some.field-0-is) in
    f.text.low

pub slice_bounds-put_field-start : goal.slice_bounds-put_field-start
slice_bounds-put_field-start c =
    let f = writing_text c.loop-end.invariant c.text_at.ensures (c.in-Ok-Some.is ∙ ap Ok c.in-Ok-Some.field-0-is) in
    f.text.low

pub slice_bounds-put_field-end : goal.slice_bounds-put_field-end
slice_bounds-put_field-end c =
    let f = writing_text c.loop-end.invariant c.text_at.ensures (c.in-Ok-Some.is ∙ ap Ok c.in-Ok-Some.field-0-is) in
    f.text.ahead.within

pub slice_bounds-put_field-count-in-Ok-Some : goal.slice_bounds-put_field-count-in-Ok-Some
slice_bounds-put_field-count-in-Ok-Some c =
    let f = writing_text c.loop-end.invariant c.text_at.ensures (c.in-Ok-Some.is ∙ ap Ok c.in-Ok-Some.field-0-is) in
    let b = fills_blank f in
    omega (arith, fill_room b, fill_length b)

pub slice_bounds-put_field-start-in-Ok-Some : goal.slice_bounds-put_field-start-in-Ok-Some
slice_bounds-put_field-start-in-Ok-Some c =
    let f = writing_text c.loop-end.invariant c.text_at.ensures (c.in-Ok-Some.is ∙ ap Ok c.in-Ok-Some.field-0-is) in
    let b = fills_blank f in
    omega (arith, fill_room b, fill_length b)

pub put_field-n-requires : goal.put_field-n-requires
put_field-n-requires c =
    let f = writing_text c.loop-end.invariant c.text_at.ensures (c.in-Ok-Some.is ∙ ap Ok c.in-Ok-Some.field-0-is) in
    fills_fits f

pub overflow_add-used : goal.overflow_add-used
overflow_add-used c =
    let f = writing_text c.loop-end.invariant c.text_at.ensures (c.in-Ok-Some.is ∙ ap Ok c.in-Ok-Some.field-0-is) in
    omega (arith, c.put_field-n.ensures.counts, fills_next f)

pub loop-end-smaller : goal.loop-end-smaller
loop-end-smaller c =
    let f = writing_text c.loop-end.invariant c.text_at.ensures (c.in-Ok-Some.is ∙ ap Ok c.in-Ok-Some.field-0-is) in
    omega (arith, f.text.low, f.text.ahead.within)

pub loop-end-preserved : goal.loop-end-preserved
loop-end-preserved c =
    let f = writing_text c.loop-end.invariant c.text_at.ensures (c.in-Ok-Some.is ∙ ap Ok c.in-Ok-Some.field-0-is) in
    fills_more f c.put_field-n.new.out c.put_field-n.result c.put_field-n.ensures

pub returns-in_default : goal.returns-in_default
returns-in_default c =
    let n : c.in_default.field-0 ≡ None = search rules in
    writing_end c.loop-end.invariant c.text_at.ensures blanked_none (c.in_default.is ∙ ap Ok n)

pub returns-in_default-2 : goal.returns-in_default-2
returns-in_default-2 c = writing_bad c.loop-end.invariant c.text_at.ensures c.in_default.is
