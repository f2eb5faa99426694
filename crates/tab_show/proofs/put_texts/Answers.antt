-- `tab_show::put_texts` meets its contract: the text at the walk's place is written, then its `=` or newline.
use Rattle.std.proofs.Common.{◌≡◌, None, Ok, ap, ◌∙◌, arith, rules}
use Rattle.table.proofs.Writing.{writing_end, writing_bad}
use Rattle.text.proofs.Filling.{fill_room, fill_length}
use Rattle.tab_show.proofs.Writing.{fills_starts, line_at, shown_none, fills_fits, fills_next, fills_bytes, fills_more}
use Rattle.tab_show.proofs.put_texts.Goals as goal

pub loop-end-init : goal.loop-end-init
loop-end-init c = fills_starts c.args.two c.args.image.now c.args.out.now c.requires.image_value c.requires.image_in_bounds

pub slice_bounds-put_text-count : goal.slice_bounds-put_text-count
slice_bounds-put_text-count c = (line_at c.loop-end.invariant c.text_at.ensures c.in-Ok-Some.is c.in-Ok-Some.field-0-is).facing.text.low

pub slice_bounds-put_text-start : goal.slice_bounds-put_text-start
slice_bounds-put_text-start c = (line_at c.loop-end.invariant c.text_at.ensures c.in-Ok-Some.is c.in-Ok-Some.field-0-is).facing.text.low

pub slice_bounds-put_text-end : goal.slice_bounds-put_text-end
slice_bounds-put_text-end c = (line_at c.loop-end.invariant c.text_at.ensures c.in-Ok-Some.is c.in-Ok-Some.field-0-is).facing.text.ahead.within

pub put_text-n-requires : goal.put_text-n-requires
put_text-n-requires c = fills_fits (line_at c.loop-end.invariant c.text_at.ensures c.in-Ok-Some.is c.in-Ok-Some.field-0-is)

pub overflow_add-next : goal.overflow_add-next
overflow_add-next c =
    let f = line_at c.loop-end.invariant c.text_at.ensures c.in-Ok-Some.is c.in-Ok-Some.field-0-is in
    omega (arith, c.put_text-n.ensures.counts, fills_next f)

pub bounds-out-next : goal.bounds-out-next
bounds-out-next c =
    let f = line_at c.loop-end.invariant c.text_at.ensures c.in-Ok-Some.is c.in-Ok-Some.field-0-is in
    let w = fills_bytes f c.put_text-n.new.out c.put_text-n.result c.put_text-n.ensures in
    omega (arith, fill_room w, fill_length w)

pub overflow_add-used : goal.overflow_add-used
overflow_add-used c =
    let f = line_at c.loop-end.invariant c.text_at.ensures c.in-Ok-Some.is c.in-Ok-Some.field-0-is in
    omega (arith, fill_room (fills_bytes f c.put_text-n.new.out c.put_text-n.result c.put_text-n.ensures))

pub loop-end-smaller : goal.loop-end-smaller
loop-end-smaller c =
    let t = (line_at c.loop-end.invariant c.text_at.ensures c.in-Ok-Some.is c.in-Ok-Some.field-0-is).facing.text in
    omega (arith, t.low, t.ahead.within)

pub loop-end-preserved : goal.loop-end-preserved
loop-end-preserved c =
    let f = line_at c.loop-end.invariant c.text_at.ensures c.in-Ok-Some.is c.in-Ok-Some.field-0-is in
    fills_more f c.put_text-n.new.out c.put_text-n.result c.put_text-n.ensures _ _ c.end_of.ensures c.first_next-first.ensures

pub returns-in_default : goal.returns-in_default
returns-in_default c =
    let n : c.in_default.field-0 ≡ None = search rules in
    writing_end c.loop-end.invariant c.text_at.ensures (shown_none _ _) (c.in_default.is ∙ ap Ok n)

pub returns-in_default-2 : goal.returns-in_default-2
returns-in_default-2 c = writing_bad c.loop-end.invariant c.text_at.ensures c.in_default.is
