-- A product beyond 64 bits is at no distance that fits.
use Prim.Native.Nat.{◌*◌}
use Rattle.arith_int.proofs.Ranges.{far}
use Rattle.arith_int.proofs.multiplied.Goals as goal

pub returns-in_default : goal.returns-in_default
returns-in_default c = far c.args.below (c.args.x * c.args.y) c.in_default.ensures
