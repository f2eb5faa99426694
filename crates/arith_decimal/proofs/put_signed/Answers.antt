-- The digits of the magnitude, behind a `-` where the number is below zero.
use mathlib.Core.Path.{◌≡◌, sym, ◌∙◌, ap}
use mathlib.Core.List.{List, ◌∷◌}
use Prim.Native.Nat.{ℕ, ◌≤◌}
use native.Mathlib.Omega.{arith}
use lib.ListN.{length, length-set, length-take, length-drop}
use lib.IntN.{ℤ, nat_abs}
use mir.Syntax.{w64}
use mir.Val.{SFits, of_z, to_z}
use Rattle.stages.specs.Units.{digits, decimal}
use Rattle.stages.specs.Constants.{signed}
use Rattle.stages.specs.Call.{over}
use Rattle.arith_int.proofs.Ranges.{held}
use Rattle.arith_decimal.proofs.Writing.{abs_room, put_signed, text_below, text_not_below}
use Rattle.arith_decimal.proofs.put_signed.Goals as goal

-- the magnitude is that of the number, and its digits have room
room : (m : ℕ) (z : ℤ) → SFits w64 z → m ≡ nat_abs (to_z w64 (of_z w64 z)) → (m ≡ nat_abs z) × (length (digits 20 m) ≤ 19)
room m z h e = let is : m ≡ nat_abs z = e ∙ rw (held z h) in (is, rw is (abs_room z h.sfits))

pub put_digits-used-requires : goal.put_digits-used-requires
put_digits-used-requires c =
    simp (length-take, length-drop, length-set) (omega (arith, (room c.magnitude-m.result c.args.z c.ranges.z c.magnitude-m.ensures).1))

pub overflow_add-result : goal.overflow_add-result
overflow_add-result c = omega (arith, c.put_digits-used.ensures.counts, (room c.magnitude-m.result c.args.z c.ranges.z c.magnitude-m.ensures).1)

pub returns-then-z-lt0 : goal.returns-then-z-lt0
unfolding decimal
returns-then-z-lt0 c =
    let a = c.args in
    let call = c.put_digits-used in
    let m = c.magnitude-m in
    let r = room m.result a.z c.ranges.z m.ensures in
    let below = text_below a.z (rw (held a.z c.ranges.z) at c.if-z-lt0.true) in
    let text : signed a.z ≡ 45 ∷ digits 20 m.result = below ∙ ap (λ (n : ℕ). 45 ∷ digits 20 n) (sym r.0) in
    record {
      counts = omega (arith, call.ensures.counts, ap length text);
      leaves =
          put_signed a.out.now (digits 20 m.result) call.new.out (omega arith) call.ensures.leaves
          ∙ ap (λ (D : List ℕ). over D a.out.now) (sym text);
    }

pub put_digits-requires : goal.put_digits-requires
put_digits-requires c = omega (arith, (room c.magnitude-m.result c.args.z c.ranges.z c.magnitude-m.ensures).1)

pub returns : goal.returns
unfolding decimal
returns c =
    let a = c.args in
    let m = c.magnitude-m in
    let r = room m.result a.z c.ranges.z m.ensures in
    rw (text_not_below a.z (rw (held a.z c.ranges.z) at c.if-z-lt0.false), ← r.0) c.put_digits.ensures
