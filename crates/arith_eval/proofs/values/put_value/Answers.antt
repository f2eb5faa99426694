-- The decimal text that was written is stored.
use mathlib.Core.Path.{sym}
use lib.Seq.{length-take-le}
use mir.Syntax.{w64}
use mir.ValLaws.{to_z-of_z}
use Rattle.arith_decimal.proofs.Writing.{puts_inside}
use Rattle.arith_eval.specs.Climbs.{inside}
use Rattle.arith_eval.proofs.Storing.{number_told, number_settable, put_kept}
use Rattle.arith_eval.proofs.values.put_value.Goals as goal

pub slice_bounds-store_within-end : goal.slice_bounds-store_within-end
slice_bounds-store_within-end c = puts_inside c.put_signed-n.ensures

pub slice_bounds-store_within-end-2 : goal.slice_bounds-store_within-end-2
slice_bounds-store_within-end-2 c =
    let p = c.put_signed-n in sym (length-take-le p.result p.new.out (puts_inside p.ensures))

pub store_within-kept-requires : goal.store_within-kept-requires
store_within-kept-requires c = (
  number_settable c.args.name.now c.args.value c.requires.0
      (number_told c.put_signed-n.ensures (to_z-of_z w64 c.args.value c.ranges.value)),
  c.requires.1,
)

pub returns : goal.returns
returns c =
    rw c.or.ensures
    (put_kept c.args.vars_room c.args.name.now c.args.value (number_told c.put_signed-n.ensures (to_z-of_z w64 c.args.value c.ranges.value))
    (inside c.args.vars.now c.args.vars_used) c.store_within-kept.new.vars c.store_within-kept.result c.store_within-kept.ensures)
