-- The variables get the front of their buffer.
use Rattle.std.proofs.Common.{sym, arith, length-take-le}
use Rattle.stages.specs.Numbers.{image_limit}
use Rattle.tab.proofs.assign_input.Goals as goal

pub slice_bounds-front-end-2 : goal.slice_bounds-front-end-2
slice_bounds-front-end-2 c = sym (length-take-le image_limit c.load.new.buffer (omega (arith, c.load.auto.buffer, c.requires.0)))
