-- `quote::put_line` meets its contract: the first field stands at the front, and those after it in the part that is left.
use Rattle.std.proofs.Common.{◌≡◌, None, Ok, ap, ◌∙◌, arith, rules}
use Rattle.text.proofs.Filling.{fill_room, fill_length, fill_free_length}
use Rattle.quote.proofs.Walks.{line_end, line_bad, line_first, line_length, line_begun, line_whole, puts_none}
use Rattle.quote.proofs.put_line.Goals as goal

pub returns-in_default : goal.returns-in_default
returns-in_default c =
    let n : c.in_default.field-0 ≡ None = search rules in
    puts_none _ _ (line_end c.args.fields.now c.requires.fields_value c.text_at.ensures (c.in_default.is ∙ ap Ok n))

pub returns-in_default-2 : goal.returns-in_default-2
returns-in_default-2 c = puts_none _ _ (line_bad c.args.fields.now c.requires.fields_value c.text_at.ensures c.in_default.is)

pub slice_bounds-put_field-count : goal.slice_bounds-put_field-count
slice_bounds-put_field-count c =
    let f = line_first c.args.fields.now c.requires.fields_value c.text_at.ensures (c.in-Ok-Some.is ∙ ap Ok c.in-Ok-Some.field-0-is) in
    f.text.low

pub slice_bounds-put_field-start : goal.slice_bounds-put_field-start
slice_bounds-put_field-start c =
    let f = line_first c.args.fields.now c.requires.fields_value c.text_at.ensures (c.in-Ok-Some.is ∙ ap Ok c.in-Ok-Some.field-0-is) in
    f.text.low

pub slice_bounds-put_field-end : goal.slice_bounds-put_field-end
slice_bounds-put_field-end c =
    let f = line_first c.args.fields.now c.requires.fields_value c.text_at.ensures (c.in-Ok-Some.is ∙ ap Ok c.in-Ok-Some.field-0-is) in
    f.text.high

pub put_field-used-requires : goal.put_field-used-requires
put_field-used-requires c =
    let f = line_first c.args.fields.now c.requires.fields_value c.text_at.ensures (c.in-Ok-Some.is ∙ ap Ok c.in-Ok-Some.field-0-is) in
    omega (arith, line_length f, c.requires.fields_in_bounds)

pub slice_bounds-put_blanked-count : goal.slice_bounds-put_blanked-count
slice_bounds-put_blanked-count c =
    let f = line_first c.args.fields.now c.requires.fields_value c.text_at.ensures (c.in-Ok-Some.is ∙ ap Ok c.in-Ok-Some.field-0-is) in
    let w = line_begun f c.requires.fields_in_bounds c.put_field-used.ensures in
    omega (arith, fill_room w, fill_length w)

pub slice_bounds-put_blanked-start : goal.slice_bounds-put_blanked-start
slice_bounds-put_blanked-start c =
    let f = line_first c.args.fields.now c.requires.fields_value c.text_at.ensures (c.in-Ok-Some.is ∙ ap Ok c.in-Ok-Some.field-0-is) in
    let w = line_begun f c.requires.fields_in_bounds c.put_field-used.ensures in
    omega (arith, fill_room w, fill_length w)

pub put_blanked-n-requires-clause-rest : goal.put_blanked-n-requires-clause-rest
put_blanked-n-requires-clause-rest c =
    let f = line_first c.args.fields.now c.requires.fields_value c.text_at.ensures (c.in-Ok-Some.is ∙ ap Ok c.in-Ok-Some.field-0-is) in
    f.rest

pub put_blanked-n-requires-clause-from_in_bounds : goal.put_blanked-n-requires-clause-from_in_bounds
put_blanked-n-requires-clause-from_in_bounds c =
    let f = line_first c.args.fields.now c.requires.fields_value c.text_at.ensures (c.in-Ok-Some.is ∙ ap Ok c.in-Ok-Some.field-0-is) in
    let w = line_begun f c.requires.fields_in_bounds c.put_field-used.ensures in
    omega (arith, fill_room w, fill_free_length w)

pub overflow_add-result : goal.overflow_add-result
overflow_add-result c =
    let f = line_first c.args.fields.now c.requires.fields_value c.text_at.ensures (c.in-Ok-Some.is ∙ ap Ok c.in-Ok-Some.field-0-is) in
    omega (arith, c.put_field-used.ensures.counts, c.put_blanked-n.ensures.counts, line_length f, c.requires.fields_in_bounds)

pub returns : goal.returns
returns c =
    let f = line_first c.args.fields.now c.requires.fields_value c.text_at.ensures (c.in-Ok-Some.is ∙ ap Ok c.in-Ok-Some.field-0-is) in
    let w = line_begun f c.requires.fields_in_bounds c.put_field-used.ensures in
    line_whole w c.put_blanked-n.new.out c.put_blanked-n.result c.put_blanked-n.ensures
