-- The decimal text of a number is what its writer leaves at the front.
use Rattle.std.proofs.Common.{sym, ap, ◌∙◌}
use lib.Seq.{length-take-le}
use mir.Syntax.{w64}
use mir.ValLaws.{to_z-of_z}
use Rattle.arith_decimal.proofs.Writing.{puts_inside}
use Rattle.text.proofs.Filling.{puts_front}
use Rattle.stages.specs.Constants.{signed}
use Rattle.stages.specs.Units.{expanded_mark}
use Rattle.row.specs.Marks.{mark_of}
use Rattle.expand_add.proofs.Fitting.{added_text}
use Rattle.expand_add.proofs.give_signed.Goals as goal

pub slice_bounds-give_expanded-end : goal.slice_bounds-give_expanded-end
slice_bounds-give_expanded-end c = puts_inside c.put_signed-n.ensures

pub slice_bounds-give_expanded-end-2 : goal.slice_bounds-give_expanded-end-2
slice_bounds-give_expanded-end-2 c = sym (length-take-le c.put_signed-n.result c.put_signed-n.new.out (puts_inside c.put_signed-n.ensures))

pub returns : goal.returns
returns c =
    let a = c.args in
    added_text a.row.units a.on (expanded_mark (mark_of a.row.mark)) a.area.now c.give_expanded.new.area c.give_expanded.result
    (puts_front c.put_signed-n.ensures ∙ ap signed (to_z-of_z w64 a.z c.ranges.z)) c.give_expanded.ensures
