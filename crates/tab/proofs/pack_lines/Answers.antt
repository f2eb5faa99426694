-- The buffer is as long as the longest image of any kind, and a list of fields gets the front of it.
use Rattle.std.proofs.Common.{sym, arith, length-take-le}
use Rattle.stages.specs.Numbers.{image_limit}
use Rattle.tab.proofs.pack_lines.Goals as goal

pub slice_bounds-pack_fields-end-in-Fields : goal.slice_bounds-pack_fields-end-in-Fields
slice_bounds-pack_fields-end-in-Fields c = sym (length-take-le image_limit c.args.image.now (omega (arith, c.requires.0)))

pub pack_fields-requires : goal.pack_fields-requires
pack_fields-requires c =
    let f = length-take-le image_limit c.args.image.now (omega (arith, c.requires.0)) in
    (omega (arith, f), omega (arith, f), c.requires.1)
