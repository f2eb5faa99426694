-- The stage tries the classes in the table's order too.
use Rattle.std.proofs.Common.{sym, ◌∙◌, drop}
use Rattle.pattern_unit.specs.Widths.{signs_by}
use Rattle.pattern_class.specs.Rows.{row_class}
use Rattle.pattern_class.proofs.Rows.{found_here, found_on, found_none, found_inside}
use Rattle.pattern_class.proofs.class_at.Goals as goal

pub returns-then-is_written : goal.returns-then-is_written
returns-then-is_written c =
    let a = c.args in
    let l = c.loop-row in
    let s = signs_by a.width (drop a.at a.units.now) in
    let e = l.invariant ∙ found_here l.row s c.loop-row-test.true (sym c.is_written.ensures ∙ c.if-is_written.true) in
    record { listed = c.loop-row-test.true; is = e; inside = found_inside a.width a.units.now a.at (row_class l.row) c.requires e }

pub loop-row-preserved : goal.loop-row-preserved
loop-row-preserved c =
    let a = c.args in
    let l = c.loop-row in
    l.invariant
    ∙ found_on l.row (signs_by a.width (drop a.at a.units.now)) c.loop-row-test.true (sym c.is_written.ensures ∙ c.if-is_written.false)

pub returns : goal.returns
returns c =
    let a = c.args in
    let l = c.loop-row in
    l.invariant ∙ found_none l.row (signs_by a.width (drop a.at a.units.now)) c.loop-row-test.false
