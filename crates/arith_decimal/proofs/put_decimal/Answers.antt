-- No number of 64 bits has more than 20 digits.
use Prim.Native.Nat.{ℕ, ◌<◌, ◌^◌}
use native.Mathlib.Omega.{arith}
use Rattle.stages.specs.Units.{decimal}
use Rattle.stages.proofs.Digits.{digits_length}
use Rattle.arith_decimal.proofs.put_decimal.Goals as goal

small : {n : ℕ} → n < 2 ^ 64 → n < 10 ^ 20
small h = omega arith

pub put_digits-requires : goal.put_digits-requires
put_digits-requires c = omega (arith, digits_length 20 19 c.args.n (small c.ranges.n.fits))

pub returns : goal.returns
unfolding decimal
returns c = c.put_digits.ensures
