-- `quote::line_length` meets its contract: the first field and those after it.
use Rattle.std.proofs.Common.{◌≡◌, None, Ok, sym, ap, ◌∙◌, length, arith, rules}
use Rattle.quote.proofs.Walks.{line_end, line_bad, line_first, line_length, line_bound}
use Rattle.quote.proofs.line_length.Goals as goal

pub slice_bounds-field_length-count : goal.slice_bounds-field_length-count
slice_bounds-field_length-count c =
    let f = line_first c.args.fields.now c.requires c.text_at.ensures (c.in-Ok-Some.is ∙ ap Ok c.in-Ok-Some.field-0-is) in
    f.text.low

pub slice_bounds-field_length-start : goal.slice_bounds-field_length-start
slice_bounds-field_length-start c =
    let f = line_first c.args.fields.now c.requires c.text_at.ensures (c.in-Ok-Some.is ∙ ap Ok c.in-Ok-Some.field-0-is) in
    f.text.low

pub slice_bounds-field_length-end : goal.slice_bounds-field_length-end
slice_bounds-field_length-end c =
    let f = line_first c.args.fields.now c.requires c.text_at.ensures (c.in-Ok-Some.is ∙ ap Ok c.in-Ok-Some.field-0-is) in
    f.text.high

pub field_length-requires : goal.field_length-requires
field_length-requires c =
    let f = line_first c.args.fields.now c.requires c.text_at.ensures (c.in-Ok-Some.is ∙ ap Ok c.in-Ok-Some.field-0-is) in
    f.text.short

pub blanked_length-requires : goal.blanked_length-requires
blanked_length-requires c =
    let f = line_first c.args.fields.now c.requires c.text_at.ensures (c.in-Ok-Some.is ∙ ap Ok c.in-Ok-Some.field-0-is) in
    f.rest

pub overflow_add-result : goal.overflow_add-result
overflow_add-result c =
    let f = line_first c.args.fields.now c.requires c.text_at.ensures (c.in-Ok-Some.is ∙ ap Ok c.in-Ok-Some.field-0-is) in
    omega (arith, c.field_length.ensures, c.blanked_length.ensures, line_bound f)

pub returns-in-Ok-Some : goal.returns-in-Ok-Some
returns-in-Ok-Some c =
    let f = line_first c.args.fields.now c.requires c.text_at.ensures (c.in-Ok-Some.is ∙ ap Ok c.in-Ok-Some.field-0-is) in
    omega (arith, c.field_length.ensures, c.blanked_length.ensures, line_length f)

pub returns-in_default : goal.returns-in_default
returns-in_default c =
    let n : c.in_default.field-0 ≡ None = search rules in
    ap length (sym (line_end c.args.fields.now c.requires c.text_at.ensures (c.in_default.is ∙ ap Ok n)))

pub returns-in_default-2 : goal.returns-in_default-2
returns-in_default-2 c = ap length (sym (line_bad c.args.fields.now c.requires c.text_at.ensures c.in_default.is))
