-- The first so many bytes of the table's text are what is written for the class, and they are looked for.
use Rattle.std.proofs.Common.{sym, ◌∙◌, ap, drop}
use lib.Seq.{length-take-le}
use Rattle.stages.specs.Bytes.{Text}
use Rattle.stages.specs.Pattern.{begin}
use Rattle.pattern_unit.specs.Widths.{signs_by}
use Rattle.pattern_class.proofs.Table.{row_written, row_fits}
use Rattle.pattern_class.proofs.is_written.Goals as goal

pub slice_bounds-text-end : goal.slice_bounds-text-end
slice_bounds-text-end c = row_fits c.args.row c.requires.1 c.class_of-class.ensures

pub slice_bounds-begins_with-end : goal.slice_bounds-begins_with-end
slice_bounds-begins_with-end c =
    let e = c.class_of-class in
    sym (length-take-le e.result.1 e.result.0 (row_fits c.args.row c.requires.1 e.ensures))

pub returns : goal.returns
returns c =
    let a = c.args in
    c.begins_with.ensures
    ∙ ap (λ (t : Text). begin t (signs_by a.width (drop a.at a.units.now))) (row_written a.row c.requires.1 c.class_of-class.ensures)
