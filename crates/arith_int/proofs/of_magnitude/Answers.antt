-- A number below zero is -1 - k for its distance k + 1.
use Prim.Native.Nat.{◌-◌}
use native.Mathlib.Omega.{arith}
use lib.IntN.{pos, negsuc}
use mir.Syntax.{w64}
use mir.Val.{SFits}
use Rattle.arith_int.proofs.Ranges.{held, value, overflow, mirrored, sign_suc, of_zero, held_pos}
use Rattle.arith_int.proofs.of_magnitude.Goals as goal

pub returns-then-m-eq0 : goal.returns-then-m-eq0
returns-then-m-eq0 c = of_zero c.args.below c.args.m c.if-m-eq0.true

pub returns-then-k-gt-ABOVE : goal.returns-then-k-gt-ABOVE
returns-then-k-gt-ABOVE c = rw (c.if-below.true, sign_suc c.args.m c.if-m-eq0.false) (overflow (negsuc (c.args.m - 1)) (omega arith))

pub returns-then-below : goal.returns-then-below
returns-then-below c =
    let low : SFits w64 (negsuc (c.args.m - 1)) = record { sfits = omega arith } in
    rw (
      held_pos (c.args.m - 1) c.if-k-gt-ABOVE.false,
      mirrored (c.args.m - 1),
      held (negsuc (c.args.m - 1)) low,
      c.if-below.true,
      sign_suc c.args.m c.if-m-eq0.false,
    ) (value (negsuc (c.args.m - 1)) low)

pub returns-then-m-gt-ABOVE : goal.returns-then-m-gt-ABOVE
returns-then-m-gt-ABOVE c = rw c.if-below.false (overflow (pos c.args.m) (omega arith))

pub returns : goal.returns
returns c = rw (c.if-below.false, held_pos c.args.m c.if-m-gt-ABOVE.false) (value (pos c.args.m) (record { sfits = omega arith }))
