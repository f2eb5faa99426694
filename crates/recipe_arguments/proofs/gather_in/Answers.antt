use Rattle.std.proofs.Common.{◌∙◌, refl, arith}
use Rattle.recipe_arguments.proofs.Packing.{packing_starts, packing_more, packing_ends}
use Rattle.recipe_arguments.proofs.gather_in.Goals as goal

pub loop-number-init : goal.loop-number-init
loop-number-init c = (packing_starts c.args.image.now c.args.first c.args.count c.requires, refl)

pub loop-number-preserved : goal.loop-number-preserved
loop-number-preserved c =
    let a = c.take_argument-so_far in
    (packing_more c.loop-number.invariant.0 (omega arith) a.ensures a.auto.image, a.auto.buffer ∙ c.loop-number.invariant.1)

pub returns : goal.returns
returns c = packing_ends c.loop-number.invariant.0 (omega arith)
