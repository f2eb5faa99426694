-- The decimal text of a count is what its writer leaves at the front.
use Rattle.std.proofs.Common.{sym}
use lib.Seq.{length-take-le}
use Rattle.arith_decimal.proofs.Writing.{puts_inside}
use Rattle.text.proofs.Filling.{puts_front}
use Rattle.stages.specs.Units.{expanded_mark}
use Rattle.row.specs.Marks.{mark_of}
use Rattle.expand_add.proofs.Fitting.{adds_text}
use Rattle.expand_item.proofs.give_count.Goals as goal

pub slice_bounds-give_expanded-end : goal.slice_bounds-give_expanded-end
slice_bounds-give_expanded-end c = puts_inside c.put_decimal-n.ensures

pub slice_bounds-give_expanded-end-2 : goal.slice_bounds-give_expanded-end-2
slice_bounds-give_expanded-end-2 c = sym (length-take-le c.put_decimal-n.result c.put_decimal-n.new.out (puts_inside c.put_decimal-n.ensures))

pub returns : goal.returns
returns c =
    let a = c.args in
    adds_text a.row.units a.on (expanded_mark (mark_of a.row.mark)) c.give_expanded.new.area c.give_expanded.result
    (puts_front c.put_decimal-n.ensures) c.give_expanded.ensures.adds
