-- Without its N the row is the pattern of the stage, and what is cut is the value.
use Rattle.std.proofs.Common.{sym, subst, drop, length-append, length-drop, arith}
use lib.Seq.{length-take-le}
use Rattle.text.specs.Cases.{side_of, reach_of}
use Rattle.read_brace.specs.Shows.{param_of}
use Rattle.row.specs.Marks.{mark_of}
use Rattle.pattern_row.specs.Kept.{NoEmpty}
use Rattle.pattern_row.proofs.Keeping.{kept_full, dropped_few}
use Rattle.expand_add.proofs.Fitting.{adds_same}
use Rattle.expand_operand.proofs.Fronts.{dropped_front, dropped_inside}
use Rattle.expand_operand.proofs.Removing.{cut_left}
use Rattle.expand_operand.proofs.cut.Goals as goal

pub cut_value-requires : goal.cut_value-requires
cut_value-requires c =
    let a = c.args in
    let p = c.requires in
    let e = c.drop_empty-end.ensures in
    let t = length-take-le a.removal.end a.work.now (omega arith) in
    let l = length-append c.drop_empty-end.new.row (drop a.removal.end a.work.now) in (
      record {
        inside = dropped_inside _ e;
        few = omega (arith, dropped_few e, t, p.3);
        full = subst NoEmpty (sym (dropped_front _ e)) (kept_full _);
      },
      p.4,
      omega (arith, l, length-drop a.removal.end a.work.now, c.drop_empty-end.auto.row, t, p.3, p.5),
    )

pub returns : goal.returns
returns c =
    let a = c.args in
    adds_same a.row.units a.on c.cut_value.new.work c.cut_value.result
    (cut_left (side_of a.removal.suffix) (reach_of a.removal.long) (mark_of a.row.mark) _ a.vars.now a.params.now
    (param_of a.text.now a.param) (dropped_front _ c.drop_empty-end.ensures) c.value_of-value.ensures) c.cut_value.ensures
